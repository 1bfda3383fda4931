-- The timeline of a key of a table beside the held changes of its image.
use Rattle.std.proofs.Common.{◌≡◌, ℕ, suc, ◌<◌, ◌≤◌, Bool, true, false, ◌&&◌, ◌||◌, cond, List, [], length, Option, Some, None, take, drop, refl, sym, ap, ◌∙◌, arith}
use Rattle.std.specs.Prelude.{not, ◌==◌, option_map, slice_get, bytes_eq}
use Rattle.std.proofs.lemmas.Bool.{eqb-true, and_from}
use Rattle.common_lemmas.proofs.Booleans.{and_left, and_right, by_test, impossible}
use Rattle.common_lemmas.proofs.Numbers.{equal_bytes, same_bytes, self_equal}
use Rattle.database_state.specs.Conflicts.{yields_key}
use Rattle.database_state.specs.State.{is_undone}
use Rattle.database_state.specs.Table.{schema_of}
use Rattle.image_findings.specs.LiveFindings.{are_apart}
use Rattle.image_findings.specs.TableContents.{TableContents, contents_with_id, long_values}
use Rattle.index_derive.specs.declared.rules.IndexRule.{IndexRule}
use Rattle.laws_images.specs.ShownStates.{with_empty_snapshot}
use Rattle.stored_variants.specs.RecordRows.{record_of}
use Rattle.version_cleanup.specs.LiveSessions.{LiveState, transaction_in}
use Rattle.version_store.specs.HeldChanges.{HeldChange, is_add, is_record, is_rewrite, is_standing_rewrite, last_place}
use Rattle.version_store.specs.declared.calls.ChangeKind.{ChangeKind}
use Rattle.version_store.specs.declared.calls.ChangeKind.TheVariants as kind
use Rattle.image_live.specs.KeySpans.{apart_at, begin_of}
use Rattle.image_live.proofs.ApartThrough.{apart_through}
use Rattle.image_live.proofs.HeldFacts.{AreHeld}
use Rattle.image_live.proofs.Places.{At, LastAt, at_begin, begin_within, behind_begin, in_front, last_at, left_at, of_front, passes_not, stands_at}
use Rattle.image_live.proofs.RecordsLeft.{NamesNoSum, has_left, left_step}
use Rattle.image_live.proofs.Timelines.{IsTimeline, Sets, Timeline}

-- ---- what stands at a place

abbrev pub test_at : (HeldChange → Bool) → List HeldChange → ℕ → Bool
test_at p held i = elim (slice_get held i) [ Some h ↦ p h | None ↦ false ]

abbrev pub bookmark_at : List HeldChange → ℕ → List ℕ
bookmark_at held i = elim (slice_get held i) [ Some h ↦ h.bookmark | None ↦ [] ]

pub tested : (p : HeldChange → Bool) (held : List HeldChange) (i : ℕ) (h : HeldChange) → slice_get held i ≡ Some h → test_at p held i ≡ p h
tested p held i h at = ap (λ (o : Option HeldChange). elim o [ Some x ↦ p x | None ↦ false ]) at

pub bookmarked : (held : List HeldChange) (i : ℕ) (h : HeldChange) → slice_get held i ≡ Some h → bookmark_at held i ≡ h.bookmark
bookmarked held i h at = ap (λ (o : Option HeldChange). elim o [ Some x ↦ x.bookmark | None ↦ [] ]) at

-- what passes is there
record Passes (p : HeldChange → Bool) (held : List HeldChange) (i : ℕ) : Type 0 where
  change : HeldChange
  is_at : slice_get held i ≡ Some change
  passes : p change ≡ true

passing : (p : HeldChange → Bool) (held : List HeldChange) (i : ℕ) → test_at p held i ≡ true → Passes p held i
passing p held i e = by (slice_get held i) refl e
  where
    by : (o : Option HeldChange) → slice_get held i ≡ o → elim o [ Some h ↦ p h | None ↦ false ] ≡ true → Passes p held i
    by None at f = impossible f
    by (Some h) at f = record { change = h; is_at = at; passes = f }

-- ---- the timeline

abbrev is_mine : TableContents → HeldChange → Bool
is_mine t h = h.table == t.table.id

abbrev is_rewriting : TableContents → HeldChange → Bool
is_rewriting t h = is_standing_rewrite t.table.id h.bookmark h

abbrev pub timeline : List LiveState → List TableContents → TableContents → IndexRule → List HeldChange → List ℕ → Timeline
timeline sessions tables t rule held key = record {
  length = length held;
  own = bookmark_at held;
  mine = test_at (is_mine t) held;
  rewrites = test_at (is_rewriting t) held;
  has = λ i. has_left tables t rule key (drop i held);
  begins = begin_of t.table.id held;
  apart = apart_at sessions held;
}

-- ---- changes that set the row of a record

is_of : (t : TableContents) (b : List ℕ) (h : HeldChange) → is_standing_rewrite t.table.id b h ≡ true → h.bookmark ≡ b
is_of t b h e =
    same_bytes h.bookmark b
    (and_right (h.table == t.table.id) (bytes_eq h.bookmark b)
    (and_left ((h.table == t.table.id) && bytes_eq h.bookmark b) (is_rewrite h.kind) (and_left (((h.table == t.table.id) && bytes_eq h.bookmark b) && is_rewrite h.kind) (not (is_undone h.status)) e)))

is_in : (t : TableContents) (b : List ℕ) (h : HeldChange) → is_standing_rewrite t.table.id b h ≡ true → (h.table == t.table.id) ≡ true
is_in t b h e =
    and_left (h.table == t.table.id) (bytes_eq h.bookmark b)
    (and_left ((h.table == t.table.id) && bytes_eq h.bookmark b) (is_rewrite h.kind) (and_left (((h.table == t.table.id) && bytes_eq h.bookmark b) && is_rewrite h.kind) (not (is_undone h.status)) e))

rewrites_it : (t : TableContents) (b : List ℕ) (h : HeldChange) → is_standing_rewrite t.table.id b h ≡ true → is_rewrite h.kind ≡ true
rewrites_it t b h e = and_right ((h.table == t.table.id) && bytes_eq h.bookmark b) (is_rewrite h.kind) (and_left (((h.table == t.table.id) && bytes_eq h.bookmark b) && is_rewrite h.kind) (not (is_undone h.status)) e)

no_sum : (what : ChangeKind) → is_rewrite what ≡ true → is_add what ≡ false
no_sum kind.Put e = refl
no_sum kind.Drop e = refl
no_sum kind.Hold e = impossible e
no_sum (kind.Add column amount) e = impossible e

module _ (sessions : List LiveState) (tables : List TableContents) (t : TableContents) (rule : IndexRule) (held : List HeldChange) (key : List ℕ) where
  abbrev tl : Timeline
  tl = timeline sessions tables t rule held key

  pub sets_of : (b : List ℕ) (i : ℕ) (h : HeldChange) → slice_get held i ≡ Some h → is_standing_rewrite t.table.id b h ≡ true → Sets tl b i
  sets_of b i h at e = (
    tested (is_rewriting t) held i h at ∙ ap (λ (x : List ℕ). is_standing_rewrite t.table.id x h) (is_of t b h e) ∙ e,
    bookmarked held i h at ∙ is_of t b h e,
  )

  pub of_sets : (b : List ℕ) (i : ℕ) (h : HeldChange) → slice_get held i ≡ Some h → Sets tl b i → is_standing_rewrite t.table.id b h ≡ true
  of_sets b i h at sets = ap (λ (x : List ℕ). is_standing_rewrite t.table.id x h) (sym sets.1 ∙ bookmarked held i h at) ∙ sym (tested (is_rewriting t) held i h at) ∙ sets.0

  -- one change more
  pub has_step : contents_with_id tables t.table.id ≡ Some t → NamesNoSum rule (schema_of t.table) → AreHeld sessions tables t held → (i : ℕ) (h : HeldChange) → slice_get held i ≡ Some h → (b : List ℕ)
      → tl.has i b ≡ cond (is_standing_rewrite t.table.id b h) (yields_key rule (schema_of t.table) key (option_map (record_of (long_values t)) h.before)) (tl.has (suc i) b)
  has_step found plain are i h at b = ap (λ (l : List HeldChange). has_left tables t rule key l b) (left_at held i h at) ∙ left_step tables t found rule plain key h (are.told i h at) (drop (suc i) held) b

  stay_same : contents_with_id tables t.table.id ≡ Some t → NamesNoSum rule (schema_of t.table) → AreHeld sessions tables t held → (i : ℕ) (b : List ℕ) → i < length held → (Sets tl b i → ⊥) → tl.has i b ≡ tl.has (suc i) b
  stay_same found plain are i b lt other =
      let at : At held i = stands_at held i lt in
      has_step found plain are i at.item at.is_at b
      ∙ by_test (is_standing_rewrite t.table.id b at.item) (λ e. absurd (other (sets_of b i at.item at.is_at e)))
      (λ e. ap (λ x. cond x (yields_key rule (schema_of t.table) key (option_map (record_of (long_values t)) at.item.before)) (tl.has (suc i) b)) e)

  sets_begin : (b : List ℕ) (e q : ℕ) → begin_of t.table.id held b e ≡ suc q → Sets tl b q
  sets_begin b e q is =
      let last : LastAt (is_standing_rewrite t.table.id b) (take e held) q = last_at (is_standing_rewrite t.table.id b) (take e held) q (at_begin (last_place (is_standing_rewrite t.table.id b) (take e held)) q is) in
      sets_of b q last.change (of_front e held q last.change last.is_at) last.passes

  none_between : (b : List ℕ) (e j : ℕ) → begin_of t.table.id held b e ≤ j → j < e → Sets tl b j → ⊥
  none_between b e j le lt sets =
      let p : Passes (is_rewriting t) held j = passing (is_rewriting t) held j sets.0 in
      impossible
      (sym (passes_not (is_standing_rewrite t.table.id b) (take e held) j p.change (in_front e held j p.change lt p.is_at) (behind_begin (last_place (is_standing_rewrite t.table.id b) (take e held)) j le))
      ∙ of_sets b j p.change p.is_at sets)

  mine_too : (i : ℕ) → tl.rewrites i ≡ true → tl.mine i ≡ true
  mine_too i e = let p : Passes (is_rewriting t) held i = passing (is_rewriting t) held i e in tested (is_mine t) held i p.change p.is_at ∙ is_in t p.change.bookmark p.change p.passes

  -- two changes that are apart
  both_apart : (i j : ℕ) (h k : HeldChange) → slice_get held i ≡ Some h → slice_get held j ≡ Some k → apart_at sessions held i j ≡ are_apart sessions h k
  both_apart i j h k at_i at_j =
      ap (λ (o : Option HeldChange). elim o [ Some x ↦ elim (slice_get held j) [ Some y ↦ are_apart sessions x y | None ↦ false ] | None ↦ false ]) at_i
      ∙ ap (λ (o : Option HeldChange). elim o [ Some y ↦ are_apart sessions h y | None ↦ false ]) at_j

  told_apart : (own add_one add_other apart : Bool) → own ≡ true → add_other ≡ false → (not own || ((add_one && add_other) || apart)) ≡ true → apart ≡ true
  told_apart true true false apart e f h = h
  told_apart true false false apart e f h = h
  told_apart true add_one true apart e f h = impossible (sym f)
  told_apart false add_one add_other apart e f h = impossible e

  near_apart : AreHeld sessions tables t held → (i j : ℕ) → i < j → j < length held → tl.mine i ≡ true → tl.rewrites j ≡ true → tl.own i ≡ tl.own j → tl.apart i j ≡ true
  near_apart are i j lt within mine rewrites own =
      let p : Passes (is_mine t) held i = passing (is_mine t) held i mine in
      let q : Passes (is_rewriting t) held j = passing (is_rewriting t) held j rewrites in
      let table : q.change.table ≡ p.change.table = eqb-true q.change.table t.table.id (is_in t q.change.bookmark q.change q.passes) ∙ sym (eqb-true p.change.table t.table.id p.passes) in
      let bookmark : q.change.bookmark ≡ p.change.bookmark = sym (bookmarked held j q.change q.is_at) ∙ sym own ∙ bookmarked held i p.change p.is_at in
      both_apart i j p.change q.change p.is_at q.is_at
      ∙ told_apart (is_record p.change.table p.change.bookmark q.change) (is_add p.change.kind) (is_add q.change.kind) (are_apart sessions p.change q.change)
      (and_from (q.change.table == p.change.table) (bytes_eq q.change.bookmark p.change.bookmark) (ap (λ n. n == p.change.table) table ∙ self_equal p.change.table) (equal_bytes q.change.bookmark p.change.bookmark bookmark))
      (no_sum q.change.kind (rewrites_it t q.change.bookmark q.change q.passes)) (are.apart i j p.change q.change lt p.is_at q.is_at)

  goes_apart : AreHeld sessions tables t held → (i j k : ℕ) → i < j → j < k → k < length held → tl.apart i j ≡ true → tl.apart j k ≡ true → tl.apart i k ≡ true
  goes_apart are i j k lt more within one two =
      let at_k : At held k = stands_at held k within in
      let at_j : At held j = stands_at held j (omega (arith, more, within)) in
      let at_i : At held i = stands_at held i (omega (arith, lt, more, within)) in
      both_apart i k at_i.item at_k.item at_i.is_at at_k.is_at
      ∙ apart_through (λ (s : ℕ). option_map with_empty_snapshot (transaction_in s sessions)) at_i.item.session at_j.item.session at_k.item.session at_j.item.number at_k.item.number at_i.item.status at_j.item.status at_k.item.status
      (are.rise j k at_j.item at_k.item more at_j.is_at at_k.is_at) (are.behind j at_j.item at_j.is_at)
      (sym (both_apart i j at_i.item at_j.item at_i.is_at at_j.is_at) ∙ one) (sym (both_apart j k at_j.item at_k.item at_j.is_at at_k.is_at) ∙ two)

  pub is_timeline : contents_with_id tables t.table.id ≡ Some t → NamesNoSum rule (schema_of t.table) → AreHeld sessions tables t held → IsTimeline tl
  is_timeline found plain are = record {
    stays = stay_same found plain are;
    within = λ b e. begin_within (is_standing_rewrite t.table.id b) held e;
    behind = sets_begin;
    between = none_between;
    mine_of = mine_too;
    near = near_apart are;
    through = goes_apart are;
  }
