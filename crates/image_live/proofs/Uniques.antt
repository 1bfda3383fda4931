-- A key is unique, as the findings of an image ask, exactly where it is one record's alone on its timeline.
use Rattle.std.proofs.Common.{◌≡◌, ℕ, suc, ◌<◌, ◌≤◌, Bool, true, false, ◌&&◌, ◌||◌, cond, List, [], ◌∷◌, length, Option, Some, None, map, drop, refl, sym, ap, subst, ◌∙◌, ◌⊎◌, inl, inr, arith}
use Rattle.std.specs.Prelude.{not, ◌==◌, nat_le, bytes_eq, slice_get}
use Rattle.std.specs.List.{list_all}
use Rattle.std.proofs.lemmas.Bool.{and_from}
use Rattle.column_set.specs.ChangedRecords.{changed_bookmark, changed_table}
use Rattle.column_set.specs.RecordValues.{RecordFields}
use Rattle.common_lemmas.proofs.Booleans.{and_left, and_right, by_test, impossible}
use Rattle.common_lemmas.proofs.Numbers.{equal_bytes, same_bytes}
use Rattle.common_lemmas.proofs.Options.{same_some}
use Rattle.database_state.specs.Conflicts.{yields_key}
use Rattle.database_state.specs.State.{PastChange, Transaction}
use Rattle.database_state.specs.Table.{rows_of, schema_of, table_with_id}
use Rattle.image_findings.specs.KeyFindings.{HeldHistory, brings_key, had_key, holders, holders_after, is_free_through, is_unique_key, may_bring, without_holder}
use Rattle.image_findings.specs.LiveFindings.{are_apart}
use Rattle.image_findings.specs.TableContents.{TableContents, contents_with_id, newest_table}
use Rattle.index_derive.specs.declared.rules.IndexRule.{IndexRule}
use Rattle.laws_engine.specs.Holding.{RowsRise}
use Rattle.laws_images.proofs.OpenedLemmas.TakenBack.{made_bookmark, made_table}
use Rattle.laws_images.specs.ShownStates.{past_change, past_of, tables_before}
use Rattle.laws_versions.specs.History.{is_apart}
use Rattle.version_cleanup.specs.LiveSessions.{LiveState}
use Rattle.version_store.specs.HeldChanges.{HeldChange}
use Rattle.image_live.proofs.FirstRows.{few, holders_from, holders_to, one_holder}
use Rattle.image_live.proofs.HeldFacts.{AreHeld}
use Rattle.image_live.proofs.HeldTimelines.{bookmarked, is_timeline, tested, timeline}
use Rattle.image_live.proofs.Places.{At, first_left, left_at, place_within, rest_left, stands_at}
use Rattle.image_live.proofs.RecordsLeft.{NamesNoSum, after_left, before_left, one_held, records_left, shown_held}
use Rattle.image_live.proofs.Timelines.{Brings, IsAlone, IsTimeline, Timeline, upto}

-- ---- tests of lists

or_first : (a b : Bool) → a ≡ true → (a || b) ≡ true
or_first true b e = refl
or_first false b e = impossible e

or_second : (a b : Bool) → b ≡ true → (a || b) ≡ true
or_second true b e = refl
or_second false b e = e

or_other : (a b : Bool) → a ≡ false → (a || b) ≡ true → b ≡ true
or_other true b e h = impossible (sym e)
or_other false b e h = h

all_without : (p : List ℕ → Bool) (own : List ℕ) (list : List (List ℕ)) → list_all p (without_holder own list) ≡ true → list_all (λ x. bytes_eq own x || p x) list ≡ true
all_without p own [] all = refl
all_without p own (x ∷ list) all = by (bytes_eq own x) refl all (λ rest. all_without p own list rest)
  where
    by : (b : Bool) → bytes_eq own x ≡ b → list_all p (cond (not b) (x ∷ without_holder own list) (without_holder own list)) ≡ true → (list_all p (without_holder own list) ≡ true → list_all (λ y. bytes_eq own y || p y) list ≡ true)
        → ((b || p x) && list_all (λ y. bytes_eq own y || p y) list) ≡ true
    by true e all rest = rest all
    by false e all rest = and_from (p x) (list_all (λ y. bytes_eq own y || p y) list) (and_left (p x) (list_all p (without_holder own list)) all) (rest (and_right (p x) (list_all p (without_holder own list)) all))

all_but : (p : List ℕ → Bool) (own : List ℕ) (list : List (List ℕ)) → list_all (λ x. bytes_eq own x || p x) list ≡ true → list_all p (without_holder own list) ≡ true
all_but p own [] all = refl
all_but p own (x ∷ list) all = by (bytes_eq own x) all (λ rest. all_but p own list rest)
  where
    by : (b : Bool) → ((b || p x) && list_all (λ y. bytes_eq own y || p y) list) ≡ true → (list_all (λ y. bytes_eq own y || p y) list ≡ true → list_all p (without_holder own list) ≡ true) → list_all p (cond (not b) (x ∷ without_holder own list) (without_holder own list)) ≡ true
    by true all rest = rest all
    by false all rest = and_from (p x) (list_all p (without_holder own list)) (and_left (p x) (list_all (λ y. bytes_eq own y || p y) list) all) (rest (and_right (p x) (list_all (λ y. bytes_eq own y || p y) list) all))

implied : (a b : Bool) → (not a || b) ≡ true → a ≡ true → b ≡ true
implied true b h e = h
implied false b h e = impossible e

implies : (a b : Bool) → (a ≡ true → b ≡ true) → (not a || b) ≡ true
implies true b f = f refl
implies false b f = refl

is_false : (b : Bool) → not b ≡ true → b ≡ false
is_false true e = sym e
is_false false e = refl

same_head : {X : Type 0} {x y : X} {xs ys : List X} → x ∷ xs ≡ y ∷ ys → Some x ≡ Some y
same_head {X} e = ap first e
  where
    first : List X → Option X
    first [] = None
    first (z ∷ zs) = Some z

same_tail : {X : Type 0} {x y : X} {xs ys : List X} → x ∷ xs ≡ y ∷ ys → xs ≡ ys
same_tail {X} e = ap rest e
  where
    rest : List X → List X
    rest [] = []
    rest (z ∷ zs) = zs

-- whether two past changes are apart is told by the held ones
abbrev pub TellApart : List LiveState → List TableContents → (ℕ → Option Transaction) → Type 0
TellApart sessions tables transactions = (h k : HeldChange) (one other : Option RecordFields) → is_apart transactions (past_change (one_held tables h) one) (past_change (one_held tables k) other) ≡ are_apart sessions h k

module _ (sessions : List LiveState) (tables : List TableContents) (t : TableContents) (rule : IndexRule) (held : List HeldChange) (key : List ℕ) (found : contents_with_id tables t.table.id ≡ Some t) (plain : NamesNoSum rule (schema_of t.table)) (are : AreHeld sessions tables t held)
    (transactions : ℕ → Option Transaction) (tell : TellApart sessions tables transactions) where
  abbrev tl : Timeline
  tl = timeline sessions tables t rule held key

  time : IsTimeline tl
  time = is_timeline sessions tables t rule held key found plain are

  abbrev yields : Option RecordFields → Bool
  yields o = yields_key rule (schema_of t.table) key o

  -- a held change as a past one, given those behind it
  abbrev item : HeldChange → List HeldChange → PastChange
  item h l = past_change (one_held tables h) (records_left tables l h.table h.bookmark)

  abbrev items : List HeldChange → List PastChange
  items l = past_of (shown_held tables l) (map newest_table tables)

  abbrev is_own : HeldChange → Bool
  is_own h = h.table == t.table.id

  table_is : (h : HeldChange) (l : List HeldChange) → (changed_table (item h l).change == t.table.id) ≡ is_own h
  table_is h l = ap (λ n. n == t.table.id) (made_table h.kind h.table h.bookmark (records_left tables l h.table h.bookmark))

  bookmark_is : (h : HeldChange) (l : List HeldChange) → changed_bookmark (item h l).change ≡ h.bookmark
  bookmark_is h l = made_bookmark h.kind h.table h.bookmark (records_left tables l h.table h.bookmark)

  -- a change at a place, before those that are left
  abbrev Stands : ℕ → HeldChange → List HeldChange → Type 0
  Stands i h l = drop i held ≡ h ∷ l

  place_of : (i : ℕ) (h : HeldChange) (l : List HeldChange) → Stands i h l → slice_get held i ≡ Some h
  place_of i h l at = first_left held i h l at

  mine_is : (i : ℕ) (h : HeldChange) (l : List HeldChange) → Stands i h l → tl.mine i ≡ is_own h
  mine_is i h l at = tested is_own held i h (place_of i h l at)

  own_is : (i : ℕ) (h : HeldChange) (l : List HeldChange) → Stands i h l → tl.own i ≡ h.bookmark
  own_is i h l at = bookmarked held i h (place_of i h l at)

  before_has : (i : ℕ) (h : HeldChange) (l : List HeldChange) → Stands i h l → is_own h ≡ true → yields (item h l).before ≡ tl.has i (tl.own i)
  before_has i h l at own =
      before_left tables t rule key h (are.told i h (place_of i h l at)) l own
      ∙ ap (λ (x : List HeldChange). yields_key rule (schema_of t.table) key (records_left tables x t.table.id h.bookmark)) (sym at)
      ∙ ap (tl.has i) (sym (own_is i h l at))

  after_has : (i : ℕ) (h : HeldChange) (l : List HeldChange) → Stands i h l → is_own h ≡ true → yields (item h l).after ≡ tl.has (suc i) (tl.own i)
  after_has i h l at own =
      after_left tables t rule key h l own
      ∙ ap (λ (x : List HeldChange). yields_key rule (schema_of t.table) key (records_left tables x t.table.id h.bookmark)) (sym (rest_left held i h l at))
      ∙ ap (tl.has (suc i)) (sym (own_is i h l at))

  -- ---- what the lists tell

  record TellsHolders (i : ℕ) (list : List (List ℕ)) : Type 0 where
    to : (p : List ℕ → Bool) → list_all p list ≡ true → (b : List ℕ) → tl.has i b ≡ true → p b ≡ true
    from : (p : List ℕ → Bool) → ((b : List ℕ) → tl.has i b ≡ true → p b ≡ true) → list_all p list ≡ true

  record TellsEarlier (i : ℕ) (list : List PastChange) : Type 0 where
    to : (p : PastChange → Bool) → list_all p list ≡ true → (e : ℕ) (h : HeldChange) (l : List HeldChange) → e < i → Stands e h l → is_own h ≡ true → p (item h l) ≡ true
    from : (p : PastChange → Bool) → ((e : ℕ) (h : HeldChange) (l : List HeldChange) → e < i → Stands e h l → is_own h ≡ true → p (item h l) ≡ true) → list_all p list ≡ true

  -- what is asked of the changes from a place on
  abbrev IsFreeAt : ℕ → Type 0
  IsFreeAt j = Brings tl j → ((c : List ℕ) → tl.has j c ≡ true → tl.own j ≡ c) × ((e : ℕ) → e < j → tl.mine e ≡ true → (tl.own e ≡ tl.own j → ⊥) → tl.has e (tl.own e) ≡ true → tl.apart e j ≡ true)

  abbrev IsFreeFrom : ℕ → Type 0
  IsFreeFrom i = (j : ℕ) → i ≤ j → j < length held → IsFreeAt j

  -- ---- one change more

  within : (i : ℕ) (h : HeldChange) (l : List HeldChange) → Stands i h l → i < length held
  within i h l at = place_within held i h (place_of i h l at)

  -- a record that the change is not of
  others_stay : (i : ℕ) (b : List ℕ) (h : HeldChange) (l : List HeldChange) → Stands i h l → bytes_eq h.bookmark b ≡ false → tl.has i b ≡ tl.has (suc i) b
  others_stay i b h l at other = time.stays i b (within i h l at) (λ sets. impossible (sym other ∙ equal_bytes h.bookmark b (sym (own_is i h l at) ∙ sets.1)))

  all_stay : (i : ℕ) (b : List ℕ) (h : HeldChange) (l : List HeldChange) → Stands i h l → is_own h ≡ false → tl.has i b ≡ tl.has (suc i) b
  all_stay i b h l at other = time.stays i b (within i h l at) (λ sets. impossible (sym other ∙ sym (mine_is i h l at) ∙ time.mine_of i sets.0))

  has_own : (i : ℕ) (b : List ℕ) (h : HeldChange) (l : List HeldChange) → Stands i h l → is_own h ≡ true → bytes_eq h.bookmark b ≡ true → tl.has (suc i) b ≡ yields (item h l).after
  has_own i b h l at own e = ap (tl.has (suc i)) (sym (same_bytes h.bookmark b e) ∙ sym (own_is i h l at)) ∙ sym (after_has i h l at own)

  abbrev after_list : HeldChange → List HeldChange → Bool → List (List ℕ) → List (List ℕ)
  after_list h l b list = cond b (changed_bookmark (item h l).change ∷ without_holder (changed_bookmark (item h l).change) list) (without_holder (changed_bookmark (item h l).change) list)

  holders_more : (i : ℕ) (h : HeldChange) (l : List HeldChange) (list : List (List ℕ)) → Stands i h l → is_own h ≡ true → TellsHolders i list → TellsHolders (suc i) (holders_after rule (schema_of t.table) key (item h l) list)
  holders_more i h l list at own tells = record {
    to = λ p all b has. to_own p b has (bytes_eq h.bookmark b) refl (yields (item h l).after) refl all;
    from = λ p each. from_own p each (yields (item h l).after) refl;
  }
    where
      mark : changed_bookmark (item h l).change ≡ h.bookmark
      mark = bookmark_is h l

      old : (p : List ℕ → Bool) (b : List ℕ) → tl.has i b ≡ true → bytes_eq h.bookmark b ≡ false → list_all p (without_holder (changed_bookmark (item h l).change) list) ≡ true → p b ≡ true
      old p b has other all =
          or_other (bytes_eq h.bookmark b) (p b) other
          (tells.to (λ x. bytes_eq h.bookmark x || p x) (all_without p h.bookmark list (ap (λ (m : List ℕ). list_all p (without_holder m list)) (sym mark) ∙ all)) b has)

      to_own : (p : List ℕ → Bool) (b : List ℕ) → tl.has (suc i) b ≡ true → (x : Bool) → bytes_eq h.bookmark b ≡ x → (y : Bool) → yields (item h l).after ≡ y → list_all p (after_list h l y list) ≡ true → p b ≡ true
      to_own p b has true e true y all = ap p (sym (same_bytes h.bookmark b e) ∙ sym mark) ∙ and_left (p (changed_bookmark (item h l).change)) (list_all p (without_holder (changed_bookmark (item h l).change) list)) all
      to_own p b has true e false y all = impossible (sym y ∙ sym (has_own i b h l at own e) ∙ has)
      to_own p b has false e true y all = old p b (others_stay i b h l at e ∙ has) e (and_right (p (changed_bookmark (item h l).change)) (list_all p (without_holder (changed_bookmark (item h l).change) list)) all)
      to_own p b has false e false y all = old p b (others_stay i b h l at e ∙ has) e all

      rest_passes : (p : List ℕ → Bool) → ((b : List ℕ) → tl.has (suc i) b ≡ true → p b ≡ true) → list_all p (without_holder (changed_bookmark (item h l).change) list) ≡ true
      rest_passes p each =
          ap (λ (m : List ℕ). list_all p (without_holder m list)) mark
          ∙ all_but p h.bookmark list
          (tells.from (λ x. bytes_eq h.bookmark x || p x)
          (λ b has. by_test (bytes_eq h.bookmark b) (λ e. or_first (bytes_eq h.bookmark b) (p b) e) (λ e. or_second (bytes_eq h.bookmark b) (p b) (each b (sym (others_stay i b h l at e) ∙ has)))))

      from_own : (p : List ℕ → Bool) → ((b : List ℕ) → tl.has (suc i) b ≡ true → p b ≡ true) → (y : Bool) → yields (item h l).after ≡ y → list_all p (after_list h l y list) ≡ true
      from_own p each true y =
          and_from (p (changed_bookmark (item h l).change)) (list_all p (without_holder (changed_bookmark (item h l).change) list))
          (ap p mark ∙ each h.bookmark (has_own i h.bookmark h l at own (equal_bytes h.bookmark h.bookmark refl) ∙ y)) (rest_passes p each)
      from_own p each false y = rest_passes p each

  holders_stay : (i : ℕ) (h : HeldChange) (l : List HeldChange) (list : List (List ℕ)) → Stands i h l → is_own h ≡ false → TellsHolders i list → TellsHolders (suc i) list
  holders_stay i h l list at other tells = record {
    to = λ p all b has. tells.to p all b (all_stay i b h l at other ∙ has);
    from = λ p each. tells.from p (λ b has. each b (sym (all_stay i b h l at other) ∙ has));
  }

  earlier_more : (i : ℕ) (h : HeldChange) (l : List HeldChange) (list : List PastChange) → Stands i h l → is_own h ≡ true → TellsEarlier i list → TellsEarlier (suc i) (item h l ∷ list)
  earlier_more i h l list at own tells = record {
    to = λ p all e g k lt stands mine. at_last p all e g k stands mine (upto i e) lt;
    from = λ p each. and_from (p (item h l)) (list_all p list) (each i h l (omega arith) at own) (tells.from p (λ e g k lt stands mine. each e g k (omega (arith, lt)) stands mine));
  }
    where
      at_last : (p : PastChange → Bool) → (p (item h l) && list_all p list) ≡ true → (e : ℕ) (g : HeldChange) (k : List HeldChange) → Stands e g k → is_own g ≡ true → (i ≤ e) ⊎ (e < i) → e < suc i → p (item g k) ≡ true
      at_last p all e g k stands mine (inl le) lt =
          let same : h ∷ l ≡ g ∷ k = sym at ∙ ap (λ n. drop n held) (omega (arith, le, lt)) ∙ stands in
          subst (λ (x : HeldChange). p (item x k) ≡ true) (same_some h g (same_head same)) (subst (λ (x : List HeldChange). p (item h x) ≡ true) (same_tail same) (and_left (p (item h l)) (list_all p list) all))
      at_last p all e g k stands mine (inr less) lt = tells.to p (and_right (p (item h l)) (list_all p list) all) e g k less stands mine

  earlier_stay : (i : ℕ) (h : HeldChange) (l : List HeldChange) (list : List PastChange) → Stands i h l → is_own h ≡ false → TellsEarlier i list → TellsEarlier (suc i) list
  earlier_stay i h l list at other tells = record {
    to = λ p all e g k lt stands mine. at_last p all e g k stands mine (upto i e) lt;
    from = λ p each. tells.from p (λ e g k lt stands mine. each e g k (omega (arith, lt)) stands mine);
  }
    where
      at_last : (p : PastChange → Bool) → list_all p list ≡ true → (e : ℕ) (g : HeldChange) (k : List HeldChange) → Stands e g k → is_own g ≡ true → (i ≤ e) ⊎ (e < i) → e < suc i → p (item g k) ≡ true
      at_last p all e g k stands mine (inl le) lt =
          let same : h ∷ l ≡ g ∷ k = sym at ∙ ap (λ n. drop n held) (omega (arith, le, lt)) ∙ stands in
          impossible (sym other ∙ ap is_own (same_some h g (same_head same)) ∙ mine)
      at_last p all e g k stands mine (inr less) lt = tells.to p all e g k less stands mine

  -- ---- one change that brings the key

  brings_of : (i : ℕ) (h : HeldChange) (l : List HeldChange) → Stands i h l → is_own h ≡ true → brings_key rule (schema_of t.table) key (item h l) ≡ true → Brings tl i
  brings_of i h l at own e = (
    mine_is i h l at ∙ own,
    sym (before_has i h l at own) ∙ is_false (yields (item h l).before) (and_right (yields (item h l).after) (not (yields (item h l).before)) e),
    sym (after_has i h l at own) ∙ and_left (yields (item h l).after) (not (yields (item h l).before)) e,
  )

  of_brings : (i : ℕ) (h : HeldChange) (l : List HeldChange) → Stands i h l → is_own h ≡ true → Brings tl i → brings_key rule (schema_of t.table) key (item h l) ≡ true
  of_brings i h l at own brings =
      and_from (yields (item h l).after) (not (yields (item h l).before)) (after_has i h l at own ∙ brings.2) (ap not (before_has i h l at own ∙ brings.1))

  own_free : (i : ℕ) (h : HeldChange) (l : List HeldChange) (earlier : List PastChange) (list : List (List ℕ)) → Stands i h l → TellsHolders i list → TellsEarlier i earlier → may_bring rule (schema_of t.table) t.table.id key transactions earlier list (item h l) ≡ true
      → ((c : List ℕ) → tl.has i c ≡ true → tl.own i ≡ c) × ((e : ℕ) → e < i → tl.mine e ≡ true → (tl.own e ≡ tl.own i → ⊥) → tl.has e (tl.own e) ≡ true → tl.apart e i ≡ true)
  own_free i h l earlier list at holders_told earlier_told may = (
    λ c has. own_is i h l at ∙ sym (bookmark_is h l) ∙ same_bytes (changed_bookmark (item h l).change) c (holders_told.to (bytes_eq (changed_bookmark (item h l).change)) (and_left alone apart_all may) c has),
    each,
  )
    where
      alone : Bool
      alone = list_all (bytes_eq (changed_bookmark (item h l).change)) list

      apart_all : Bool
      apart_all = list_all (λ e. not (had_key rule (schema_of t.table) t.table.id key (item h l) e) || is_apart transactions e (item h l)) earlier

      each : (e : ℕ) → e < i → tl.mine e ≡ true → (tl.own e ≡ tl.own i → ⊥) → tl.has e (tl.own e) ≡ true → tl.apart e i ≡ true
      each e lt mine other has =
          let there : At held e = stands_at held e (omega (arith, lt, within i h l at)) in
          let g : HeldChange = there.item in
          let k : List HeldChange = drop (suc e) held in
          let stands : Stands e g k = left_at held e g there.is_at in
          let own : is_own g ≡ true = sym (mine_is e g k stands) ∙ mine in
          both_are e g there.is_at
          ∙ sym (tell g h (records_left tables k g.table g.bookmark) (records_left tables l h.table h.bookmark))
          ∙ implied (had_key rule (schema_of t.table) t.table.id key (item h l) (item g k)) (is_apart transactions (item g k) (item h l))
          (earlier_told.to (λ e. not (had_key rule (schema_of t.table) t.table.id key (item h l) e) || is_apart transactions e (item h l)) (and_right alone apart_all may) e g k lt stands own)
          (and_from (changed_table (item g k).change == t.table.id) (not (bytes_eq (changed_bookmark (item h l).change) (changed_bookmark (item g k).change)) && yields (item g k).before)
          (table_is g k ∙ own)
          (and_from (not (bytes_eq (changed_bookmark (item h l).change) (changed_bookmark (item g k).change))) (yields (item g k).before)
          (ap not (differ e g k stands other)) (before_has e g k stands own ∙ has)))
        where
          differ : (e : ℕ) (g : HeldChange) (k : List HeldChange) → Stands e g k → (tl.own e ≡ tl.own i → ⊥) → bytes_eq (changed_bookmark (item h l).change) (changed_bookmark (item g k).change) ≡ false
          differ e g k stands other =
              by_test (bytes_eq (changed_bookmark (item h l).change) (changed_bookmark (item g k).change))
              (λ e. absurd (other (own_is _ g k stands ∙ sym (bookmark_is g k) ∙ sym (same_bytes (changed_bookmark (item h l).change) (changed_bookmark (item g k).change) e) ∙ bookmark_is h l ∙ sym (own_is i h l at))))
              (λ e. e)

          both_are : (e : ℕ) (g : HeldChange) → slice_get held e ≡ Some g → tl.apart e i ≡ are_apart sessions g h
          both_are e g at_e =
              ap (λ (o : Option HeldChange). elim o [ Some x ↦ elim (slice_get held i) [ Some y ↦ are_apart sessions x y | None ↦ false ] | None ↦ false ]) at_e
              ∙ ap (λ (o : Option HeldChange). elim o [ Some y ↦ are_apart sessions g y | None ↦ false ]) (place_of i h l at)

  may_be : (i : ℕ) (h : HeldChange) (l : List HeldChange) (earlier : List PastChange) (list : List (List ℕ)) → Stands i h l → TellsHolders i list → TellsEarlier i earlier
      → ((c : List ℕ) → tl.has i c ≡ true → tl.own i ≡ c) × ((e : ℕ) → e < i → tl.mine e ≡ true → (tl.own e ≡ tl.own i → ⊥) → tl.has e (tl.own e) ≡ true → tl.apart e i ≡ true)
      → may_bring rule (schema_of t.table) t.table.id key transactions earlier list (item h l) ≡ true
  may_be i h l earlier list at holders_told earlier_told free =
      and_from (list_all (bytes_eq (changed_bookmark (item h l).change)) list) (list_all (λ e. not (had_key rule (schema_of t.table) t.table.id key (item h l) e) || is_apart transactions e (item h l)) earlier)
      (holders_told.from (bytes_eq (changed_bookmark (item h l).change)) (λ c has. equal_bytes (changed_bookmark (item h l).change) c (bookmark_is h l ∙ sym (own_is i h l at) ∙ free.0 c has)))
      (earlier_told.from (λ e. not (had_key rule (schema_of t.table) t.table.id key (item h l) e) || is_apart transactions e (item h l)) each)
    where
      each : (e : ℕ) (g : HeldChange) (k : List HeldChange) → e < i → Stands e g k → is_own g ≡ true → (not (had_key rule (schema_of t.table) t.table.id key (item h l) (item g k)) || is_apart transactions (item g k) (item h l)) ≡ true
      each e g k lt stands own =
          implies (had_key rule (schema_of t.table) t.table.id key (item h l) (item g k)) (is_apart transactions (item g k) (item h l))
          (λ had.
          let rest : (not (bytes_eq (changed_bookmark (item h l).change) (changed_bookmark (item g k).change)) && yields (item g k).before) ≡ true = and_right (changed_table (item g k).change == t.table.id) (not (bytes_eq (changed_bookmark (item h l).change) (changed_bookmark (item g k).change)) && yields (item g k).before) had in
          let other : bytes_eq (changed_bookmark (item h l).change) (changed_bookmark (item g k).change) ≡ false = is_false (bytes_eq (changed_bookmark (item h l).change) (changed_bookmark (item g k).change)) (and_left (not (bytes_eq (changed_bookmark (item h l).change) (changed_bookmark (item g k).change))) (yields (item g k).before) rest) in
          tell g h (records_left tables k g.table g.bookmark) (records_left tables l h.table h.bookmark)
          ∙ sym (ap (λ (o : Option HeldChange). elim o [ Some x ↦ elim (slice_get held i) [ Some y ↦ are_apart sessions x y | None ↦ false ] | None ↦ false ]) (place_of e g k stands)
          ∙ ap (λ (o : Option HeldChange). elim o [ Some y ↦ are_apart sessions g y | None ↦ false ]) (place_of i h l at))
          ∙ free.1 e lt (mine_is e g k stands ∙ own)
          (λ same. impossible (sym other ∙ equal_bytes (changed_bookmark (item h l).change) (changed_bookmark (item g k).change) (bookmark_is h l ∙ sym (own_is i h l at) ∙ sym same ∙ own_is e g k stands ∙ sym (bookmark_is g k))))
          (sym (before_has e g k stands own) ∙ and_right (not (bytes_eq (changed_bookmark (item h l).change) (changed_bookmark (item g k).change))) (yields (item g k).before) rest))

  -- ---- all changes from a place on

  abbrev free_through : List PastChange → List (List ℕ) → List HeldChange → Bool
  free_through earlier list l = is_free_through rule (schema_of t.table) t.table.id key transactions earlier list (items l)

  abbrev step_test : HeldChange → List HeldChange → List PastChange → List (List ℕ) → Bool → Bool
  step_test h l earlier list own =
      cond own ((not (brings_key rule (schema_of t.table) key (item h l)) || may_bring rule (schema_of t.table) t.table.id key transactions earlier list (item h l)) && free_through (item h l ∷ earlier) (holders_after rule (schema_of t.table) key (item h l) list) l)
      (free_through earlier list l)

  none_left : (i : ℕ) → drop i held ≡ [] → (j : ℕ) → i ≤ j → j < length held → ⊥
  none_left i e j le lt = nothing (sym e ∙ left_at held i (stands_at held i (omega (arith, le, lt))).item (stands_at held i (omega (arith, le, lt))).is_at)
    where
      nothing : {x : HeldChange} {xs : List HeldChange} → [] ≡ x ∷ xs → ⊥
      nothing e = cc

  at_place : (i : ℕ) → IsFreeAt i → IsFreeFrom (suc i) → IsFreeFrom i
  at_place i here rest j le lt = by (upto (suc i) j)
    where
      by : (suc i ≤ j) ⊎ (j < suc i) → IsFreeAt j
      by (inl later) = rest j later lt
      by (inr less) = subst IsFreeAt (omega (arith, le, less)) here

  goes_to : (l : List HeldChange) (i : ℕ) (earlier : List PastChange) (list : List (List ℕ)) → drop i held ≡ l → TellsHolders i list → TellsEarlier i earlier → free_through earlier list l ≡ true → IsFreeFrom i
  goes_to [] i earlier list at holders_told earlier_told free = λ j le lt. absurd (none_left i at j le lt)
  goes_to (h ∷ l) i earlier list at holders_told earlier_told free =
      by (is_own h) refl (sym (ap (step_test h l earlier list) (table_is h l)) ∙ free)
      (λ own next. goes_to l (suc i) (item h l ∷ earlier) (holders_after rule (schema_of t.table) key (item h l) list) (rest_left held i h l at) (holders_more i h l list at own holders_told) (earlier_more i h l earlier at own earlier_told) next)
      (λ other next. goes_to l (suc i) earlier list (rest_left held i h l at) (holders_stay i h l list at other holders_told) (earlier_stay i h l earlier at other earlier_told) next)
    where
      bring : Bool
      bring = not (brings_key rule (schema_of t.table) key (item h l)) || may_bring rule (schema_of t.table) t.table.id key transactions earlier list (item h l)

      others : Bool
      others = free_through (item h l ∷ earlier) (holders_after rule (schema_of t.table) key (item h l) list) l

      by : (b : Bool) → is_own h ≡ b → step_test h l earlier list b ≡ true → (is_own h ≡ true → others ≡ true → IsFreeFrom (suc i)) → (is_own h ≡ false → free_through earlier list l ≡ true → IsFreeFrom (suc i)) → IsFreeFrom i
      by true own e here there =
          at_place i
          (λ brings. own_free i h l earlier list at holders_told earlier_told (implied (brings_key rule (schema_of t.table) key (item h l)) (may_bring rule (schema_of t.table) t.table.id key transactions earlier list (item h l)) (and_left bring others e) (of_brings i h l at own brings)))
          (here own (and_right bring others e))
      by false other e here there = at_place i (λ brings. impossible (sym other ∙ sym (mine_is i h l at) ∙ brings.0)) (there other e)

  goes_from : (l : List HeldChange) (i : ℕ) (earlier : List PastChange) (list : List (List ℕ)) → drop i held ≡ l → TellsHolders i list → TellsEarlier i earlier → IsFreeFrom i → free_through earlier list l ≡ true
  goes_from [] i earlier list at holders_told earlier_told free = refl
  goes_from (h ∷ l) i earlier list at holders_told earlier_told free =
      ap (step_test h l earlier list) (table_is h l)
      ∙ by (is_own h) refl
      (λ own. goes_from l (suc i) (item h l ∷ earlier) (holders_after rule (schema_of t.table) key (item h l) list) (rest_left held i h l at) (holders_more i h l list at own holders_told) (earlier_more i h l earlier at own earlier_told) (λ j le lt. free j (omega (arith, le)) lt))
      (λ other. goes_from l (suc i) earlier list (rest_left held i h l at) (holders_stay i h l list at other holders_told) (earlier_stay i h l earlier at other earlier_told) (λ j le lt. free j (omega (arith, le)) lt))
    where
      bring : Bool
      bring = not (brings_key rule (schema_of t.table) key (item h l)) || may_bring rule (schema_of t.table) t.table.id key transactions earlier list (item h l)

      others : Bool
      others = free_through (item h l ∷ earlier) (holders_after rule (schema_of t.table) key (item h l) list) l

      by : (b : Bool) → is_own h ≡ b → (is_own h ≡ true → others ≡ true) → (is_own h ≡ false → free_through earlier list l ≡ true) → step_test h l earlier list b ≡ true
      by true own here there =
          and_from bring others
          (implies (brings_key rule (schema_of t.table) key (item h l)) (may_bring rule (schema_of t.table) t.table.id key transactions earlier list (item h l))
          (λ brings. may_be i h l earlier list at holders_told earlier_told (free i (omega arith) (within i h l at) (brings_of i h l at own brings))))
          (here own)
      by false other here there = there other

  -- ---- the whole

  abbrev history : HeldHistory
  history = record { first = tables_before (shown_held tables held) (map newest_table tables); past = items held; transactions = transactions }

  first_earlier : TellsEarlier 0 []
  first_earlier = record { to = λ p all e h l lt stands own. absurd (omega (arith, lt)); from = λ p each. refl }

  first_holders : RowsRise (rows_of (table_with_id history.first t.table.id)) → TellsHolders 0 (holders rule (schema_of t.table) key (rows_of (table_with_id history.first t.table.id)))
  first_holders rise = record {
    to = holders_to rule (schema_of t.table) key (rows_of (table_with_id history.first t.table.id));
    from = holders_from rule (schema_of t.table) key (rows_of (table_with_id history.first t.table.id)) rise;
  }

  pub alone_of : RowsRise (rows_of (table_with_id history.first t.table.id)) → is_unique_key history t.table rule key ≡ true → IsAlone tl
  alone_of rise unique =
      let first : List (List ℕ) = holders rule (schema_of t.table) key (rows_of (table_with_id history.first t.table.id)) in
      let few_first : nat_le (length first) 1 ≡ true = and_left (nat_le (length first) 1) (free_through [] first held) unique in
      let free : IsFreeFrom 0 = goes_to held 0 [] first refl (first_holders rise) first_earlier (and_right (nat_le (length first) 1) (free_through [] first held) unique) in
      record {
        first = one_holder rule (schema_of t.table) key (rows_of (table_with_id history.first t.table.id)) few_first;
        free = λ j lt brings. (free j (omega arith) lt brings).0;
        order = λ e j lt end brings mine other has. (free j (omega arith) end brings).1 e lt mine other has;
      }

  pub unique_of : RowsRise (rows_of (table_with_id history.first t.table.id)) → IsAlone tl → is_unique_key history t.table rule key ≡ true
  unique_of rise only =
      let first : List (List ℕ) = holders rule (schema_of t.table) key (rows_of (table_with_id history.first t.table.id)) in
      and_from (nat_le (length first) 1) (free_through [] first held)
      (few rule (schema_of t.table) key (rows_of (table_with_id history.first t.table.id)) rise only.first)
      (goes_from held 0 [] first refl (first_holders rise) first_earlier (λ j le lt brings. ((λ c has. only.free j lt brings c has), (λ e less mine other has. only.order e j less lt brings mine other has))))
