-- What a session finds of a record.
use Rattle.std.proofs.Common.{◌≡◌, ℕ, Bool, true, false, not, ◌&&◌, ◌||◌, cond, List, [], ◌∷◌, Option, Some, refl, sym, ap, ◌∙◌}
use Rattle.std.specs.Prelude.{◌==◌, find, filter, fold}
use Rattle.std.specs.List.{AllByRecursion}
use Rattle.std.proofs.lemmas.Bool.{and_from, eqb-true, not-true}
use Rattle.common_lemmas.proofs.Booleans.{and_left, and_right}
use Rattle.common_lemmas.proofs.Lists.{all_weaker}
use Rattle.common_lemmas.proofs.Numbers.{same_bytes}
use Rattle.column_set.specs.declared.changes.Change.{Change}
use Rattle.column_set.specs.declared.changes.Change.TheVariants.{Put, Drop, Hold, Add}
use Rattle.column_set.specs.RecordValues.{RecordFields}
use Rattle.database_state.specs.Changes.{is_sum}
use Rattle.column_set.specs.ChangedRecords.{changed_table, changed_bookmark}
use Rattle.database_state.specs.State.{DatabaseState, PastChange, Transaction, Status, uncommitted, committed, undone, is_undone, transaction_of}
use Rattle.database_state.specs.Conflicts.{collide}
use Rattle.laws_versions.specs.Records.{Records, after_item, is_change_of, record_after, records_after, records_after_items}
use Rattle.laws_versions.proofs.ChangeLemmas.Commuting.{both_touch, commute}
use Rattle.laws_versions.proofs.ChangeLemmas.Tests.{contradicted}
use Rattle.laws_versions.specs.History.{EachTwo, HasBefores}
use Rattle.laws_versions.specs.Readers.{before_or, found_record, hides, is_rewrite, is_standing, is_unseen, sees, until, was_committed_status}
use Rattle.laws_versions.proofs.HistoryLemmas.Lists.{each_until, each_weaker}
use Rattle.laws_versions.proofs.HistoryLemmas.Merging.{Commute, merged}
use Rattle.laws_versions.proofs.HistoryLemmas.SeenEarlier.{SeenEarlier}

-- ---- records before

-- only what was there under a bookmark counts there
pub fold-at : (items : List PastChange) (t : ℕ) (b : List ℕ) (r s : Records) → r t b ≡ s t b → fold after_item r items t b ≡ fold after_item s items t b
fold-at [] t b r s e = e
fold-at (item ∷ items) t b r s e =
    fold-at items t b (after_item r item) (after_item s item)
    (ap (λ (x : Option RecordFields). cond (is_change_of t b item.change) (record_after item.change x) x) e)

pub no_sum : (c : Change) → is_rewrite c ≡ true → is_sum c ≡ false
no_sum (Put t b copied values) h = refl
no_sum (Drop t b) h = refl
no_sum (Hold t b) h = refl
no_sum (Add t b c a) h = sym h

pub found_before : (session : ℕ) (tr : Option Transaction) (t : ℕ) (b : List ℕ) (kept : List PastChange) (base : Records) (newest : Option RecordFields)
    → HasBefores base kept → newest ≡ records_after_items is_standing base kept t b
    → found_record session tr t b newest kept ≡ records_after_items is_standing base (until (hides session tr t b) kept) t b
found_before session tr t b [] base newest h e = e
found_before session tr t b (item ∷ kept) base newest h e =
    elim (hides session tr t b item) as (λ x. hides session tr t b item ≡ x
    → before_or newest (cond x (Some item) (find (hides session tr t b) kept)) ≡ records_after_items is_standing base (cond x [] (item ∷ until (hides session tr t b) kept)) t b) [
      | true ↦ λ hit.
          let touched : (is_change_of t b item.change && is_rewrite item.change) ≡ true = and_left _ _ hit in
          let mine : is_change_of t b item.change ≡ true = and_left _ _ touched in
          let live : is_standing item ≡ true = and_left _ _ (and_right (is_change_of t b item.change && is_rewrite item.change) _ hit) in
          h.0 live (no_sum item.change (and_right (is_change_of t b item.change) _ touched))
          ∙ ap (λ (n : ℕ). base n (changed_bookmark item.change)) (eqb-true (changed_table item.change) t (and_left _ _ mine))
          ∙ ap (λ (k : List ℕ). base t k) (same_bytes (changed_bookmark item.change) b (and_right (changed_table item.change == t) _ mine))
      | false ↦ λ miss.
          elim (is_standing item) as (λ x. HasBefores (cond x (records_after base item.change) base) kept → newest ≡ fold after_item base (cond x (item ∷ filter is_standing kept) (filter is_standing kept)) t b
          → before_or newest (find (hides session tr t b) kept) ≡ fold after_item base (cond x (item ∷ filter is_standing (until (hides session tr t b) kept)) (filter is_standing (until (hides session tr t b) kept))) t b) [
            | true ↦ λ g d. found_before session tr t b kept (after_item base item) newest g d
            | false ↦ λ g d. found_before session tr t b kept base newest g d
          ] h.1 e
    ] refl

-- ---- what is seen

untouched : (test : PastChange → Bool) (t : ℕ) (b : List ℕ) (items : List PastChange) → AllByRecursion (λ q. test q ≡ true → is_change_of t b q.change ≡ false) items → (base : Records)
    → records_after_items test base items t b ≡ base t b
untouched test t b [] h base = refl
untouched test t b (q ∷ items) h base =
    elim (test q) as (λ x. test q ≡ x → fold after_item base (cond x (q ∷ filter test items) (filter test items)) t b ≡ base t b) [
      | true ↦ λ e. untouched test t b items h.1 (after_item base q) ∙ ap (λ x. cond x (record_after q.change (base t b)) (base t b)) (h.0 e)
      | false ↦ λ e. untouched test t b items h.1 base
    ] refl

-- a put or a drop collides with each change of its record
hit_collides : (t : ℕ) (b : List ℕ) (p q : Change) → is_rewrite p ≡ true → is_change_of t b p ≡ true → is_change_of t b q ≡ true → collide p q ≡ true
hit_collides t b p q rewrite hp hq = and_from _ _ (both_touch t b p q hp hq) (ap (λ x. not (x && is_sum q)) (no_sum p rewrite))

pub seen_until : (session : ℕ) (tr : Option Transaction) (t : ℕ) (b : List ℕ) (kept : List PastChange) → EachTwo (SeenEarlier session tr) kept → (base : Records)
    → records_after_items (sees session tr) base kept t b ≡ records_after_items (sees session tr) base (until (hides session tr t b) kept) t b
seen_until session tr t b [] h base = refl
seen_until session tr t b (item ∷ kept) h base =
    elim (hides session tr t b item) as (λ x. hides session tr t b item ≡ x
    → records_after_items (sees session tr) base (item ∷ kept) t b ≡ records_after_items (sees session tr) base (cond x [] (item ∷ until (hides session tr t b) kept)) t b) [
      | true ↦ λ hit.
          let touched : (is_change_of t b item.change && is_rewrite item.change) ≡ true = and_left _ _ hit in
          let mine : is_change_of t b item.change ≡ true = and_left _ _ touched in
          let unseen : is_unseen session tr item ≡ true = and_right (is_change_of t b item.change && is_rewrite item.change) _ hit in
          let hidden : sees session tr item ≡ false = not-true _ (and_right (is_standing item) _ unseen) in
          untouched (sees session tr) t b (item ∷ kept) (
            (λ e. absurd_test (is_change_of t b item.change) hidden e),
            all_weaker (SeenEarlier session tr item) (λ q. sees session tr q ≡ true → is_change_of t b q.change ≡ false)
                (λ q early seen. contradicted (is_change_of t b q.change) (λ hq.
                sym (early (and_left _ _ unseen) seen (hit_collides t b item.change q.change (and_right (is_change_of t b item.change) _ touched) mine hq)) ∙ hidden)) kept h.0,
          )
          base
      | false ↦ λ miss.
          elim (sees session tr item) as (λ x. fold after_item base (cond x (item ∷ filter (sees session tr) kept) (filter (sees session tr) kept)) t b
          ≡ fold after_item base (cond x (item ∷ filter (sees session tr) (until (hides session tr t b) kept)) (filter (sees session tr) (until (hides session tr t b) kept))) t b) [
            | true ↦ seen_until session tr t b kept h.1 (after_item base item)
            | false ↦ seen_until session tr t b kept h.1 base
          ]
    ] refl
  where
    absurd_test : (a : Bool) → sees session tr item ≡ false → sees session tr item ≡ true → a ≡ false
    absurd_test a f g = cc

-- ---- both

live_by : (seen live : Bool) → (seen ≡ true → live ≡ true) → (seen || (live && not seen)) ≡ live
live_by true live h = sym (h refl)
live_by false true h = refl
live_by false false h = refl

pub seen_live : (session : ℕ) (tr : Option Transaction) (item : PastChange) → sees session tr item ≡ true → is_standing item ≡ true
seen_live session tr item h = by (item.status) h
  where
    by : (s : Status) → (was_committed_status tr s || (Rattle.database_state.specs.State.is_open s && (item.session == session))) ≡ true → not (is_undone s) ≡ true
    by uncommitted g = refl
    by (committed n) g = refl
    by undone g = cc

-- the changes that a session does not see made after those that it sees
pub unseen_after : (session : ℕ) (tr : Option Transaction) (base : Records) (items : List PastChange) → EachTwo (SeenEarlier session tr) items
    → fold after_item (records_after_items (sees session tr) base items) (filter (is_unseen session tr) items) ≡ records_after_items is_standing base items
unseen_after session tr base items h =
    merged after_item (sees session tr) (is_unseen session tr) (λ item e. hidden (is_standing item) (sees session tr item) e) base items
    (each_weaker (SeenEarlier session tr) (λ p q. is_unseen session tr p ≡ true → sees session tr q ≡ true → Commute after_item p q)
    (λ p q early unseen seen. commute p q (contradicted (collide p.change q.change) (λ hit. sym (early (and_left _ _ unseen) seen hit) ∙ not-true _ (and_right (is_standing p) _ unseen)))) items h)
    ∙ ap (λ (test : PastChange → Bool). records_after_items test base items) (λ i item. live_by (sees session tr item) (is_standing item) (seen_live session tr item) i)
  where
    hidden : (live seen : Bool) → seen ≡ true → (live && not seen) ≡ false
    hidden true seen e = ap not e
    hidden false seen e = refl

-- What is found is the record that the session sees with the changes of others on it that came before.
pub found : (session : ℕ) (tr : Option Transaction) (t : ℕ) (b : List ℕ) (base : Records) (kept : List PastChange) (newest : Option RecordFields)
    → EachTwo (SeenEarlier session tr) kept → HasBefores base kept → newest ≡ records_after_items is_standing base kept t b
    → found_record session tr t b newest kept ≡ records_after_items (is_unseen session tr) (records_after_items (sees session tr) base kept) (until (hides session tr t b) kept) t b
found session tr t b base kept newest early befores e =
    let front = until (hides session tr t b) kept in
    found_before session tr t b kept base newest befores e
    ∙ ap (λ (r : Records). r t b) (sym (unseen_after session tr base front (each_until (SeenEarlier session tr) (hides session tr t b) kept early)))
    ∙ sym (fold-at (filter (is_unseen session tr) front) t b (records_after_items (sees session tr) base kept) (records_after_items (sees session tr) base front) (seen_until session tr t b kept early base))
