-- A change that meets no write conflict finds its record newest, and the span is that of the kept changes.
use Rattle.std.proofs.Common.{◌≡◌, ℕ, ◌<◌, Bool, true, false, not, ◌&&◌, ◌||◌, cond, List, [], ◌∷◌, Option, Some, refl, sym, ap, subst, ◌∙◌, arith}
use Rattle.std.specs.Prelude.{◌==◌, nat_lt, filter, fold, IfSome}
use Rattle.std.specs.List.{AllByRecursion}
use Rattle.std.proofs.lemmas.Bool.Decides.{nat_tests}
use Rattle.std.proofs.lemmas.Bool.{and_from, eqb-true}
use Rattle.common_lemmas.proofs.Numbers.{equal_bytes, self_equal}
use Rattle.common_lemmas.proofs.Booleans.{impossible}
use Rattle.column_set.specs.declared.changes.Change.{Change}
use Rattle.column_set.specs.RecordValues.{RecordFields}
use Rattle.database_state.specs.Changes.{is_sum}
use Rattle.column_set.specs.ChangedRecords.{changed_table, changed_bookmark}
use Rattle.database_state.specs.State.{DatabaseState, PastChange, Transaction, Status, uncommitted, committed, undone, is_open, is_undone, transaction_of}
use Rattle.database_state.specs.View.{newest, view}
use Rattle.database_state.specs.Conflicts.{collide, is_concurrent, is_concurrent_status, has_write_conflict}
use Rattle.laws_versions.specs.Records.{Records, after_item, is_change_of, record_after, records_after_items, records_of}
use Rattle.laws_versions.proofs.ChangeLemmas.Commuting.{both_touch}
use Rattle.laws_versions.specs.History.{IsHistory, IsPlaced, IsPlacedBy}
use Rattle.laws_versions.specs.Readers.{is_standing, sees, was_committed_status}
use Rattle.laws_versions.proofs.HistoryLemmas.EndEntries.{free_of}
use Rattle.laws_versions.proofs.HistoryLemmas.Lists.{all_both}
use Rattle.laws_versions.proofs.HistoryLemmas.SeenRecords.{newest_records}
use Rattle.laws_versions.proofs.HistoryLemmas.Viewing.{view_records}

-- ---- two readers that see the same of one record

-- one change further
same_next : (f g : PastChange → Bool) (t : ℕ) (b : List ℕ) (p : PastChange) (items : List PastChange) → (is_change_of t b p.change ≡ true → f p ≡ g p)
    → ((x y : Records) → x t b ≡ y t b → records_after_items f x items t b ≡ records_after_items g y items t b) → (r s : Records) → r t b ≡ s t b
    → records_after_items f r (p ∷ items) t b ≡ records_after_items g s (p ∷ items) t b
same_next f g t b p items h next r s e =
    elim (is_change_of t b p.change) as (λ x. is_change_of t b p.change ≡ x → fold after_item r (cond (f p) (p ∷ filter f items) (filter f items)) t b ≡ fold after_item s (cond (g p) (p ∷ filter g items) (filter g items)) t b) [
      | true ↦ λ mine. ap (λ x. fold after_item r (cond x (p ∷ filter f items) (filter f items)) t b) (h mine)
          ∙ elim (g p) as (λ x. fold after_item r (cond x (p ∷ filter f items) (filter f items)) t b ≡ fold after_item s (cond x (p ∷ filter g items) (filter g items)) t b) [
            | true ↦ next (after_item r p) (after_item s p) (ap (λ (x : Option RecordFields). cond (is_change_of t b p.change) (record_after p.change x) x) e)
            | false ↦ next r s e
          ]
      | false ↦ λ other. elim (f p) as (λ x. fold after_item r (cond x (p ∷ filter f items) (filter f items)) t b ≡ fold after_item s (cond (g p) (p ∷ filter g items) (filter g items)) t b) [
        | true ↦ right (after_item r p) other (beside r other ∙ e)
        | false ↦ right r other e
      ]
    ] refl
  where
    beside : (r : Records) → is_change_of t b p.change ≡ false → after_item r p t b ≡ r t b
    beside r other = ap (λ x. cond x (record_after p.change (r t b)) (r t b)) other

    right : (x : Records) → is_change_of t b p.change ≡ false → x t b ≡ s t b → records_after_items f x items t b ≡ fold after_item s (cond (g p) (p ∷ filter g items) (filter g items)) t b
    right x other d = elim (g p) as (λ y. records_after_items f x items t b ≡ fold after_item s (cond y (p ∷ filter g items) (filter g items)) t b) [
      | true ↦ next x (after_item s p) (d ∙ sym (beside s other))
      | false ↦ next x s d
    ]

same_at : (f g : PastChange → Bool) (t : ℕ) (b : List ℕ) (items : List PastChange) → AllByRecursion (λ p. is_change_of t b p.change ≡ true → f p ≡ g p) items → (r s : Records) → r t b ≡ s t b
    → records_after_items f r items t b ≡ records_after_items g s items t b
same_at f g t b [] h r s e = e
same_at f g t b (p ∷ items) h r s e = same_next f g t b p items h.0 (λ x y d. same_at f g t b items h.1 x y d) r s e

-- what stands and is not concurrent is seen
pub seen_unless : (n : ℕ) (transactions : ℕ → Option Transaction) (session : ℕ) (t : Transaction) (p : PastChange) → transactions session ≡ Some t → IsPlacedBy n transactions p p.status
    → (is_standing p ≡ true → is_concurrent session (Some t) p ≡ false) → is_standing p ≡ sees session (Some t) p
seen_unless n transactions session t p e placed free = by (p.session == session) refl p.status placed free
  where
    own : (m : ℕ) → m < t.begin → true ≡ (not (nat_lt t.begin m) || false)
    own m lt = sym (ap (λ b. not b || false) (past m t.begin lt))
      where
        past : (a b : ℕ) → a < b → nat_lt b a ≡ false
        past a b lt = grind (arith, nat_tests)

    by : (same : Bool) → (p.session == session) ≡ same → (s : Status) → IsPlacedBy n transactions p s → (not (is_undone s) ≡ true → (not (p.session == session) && is_concurrent_status (Some t) s) ≡ false)
        → not (is_undone s) ≡ (was_committed_status (Some t) s || (is_open s && (p.session == session)))
    by true is uncommitted h free = sym is
    by false is uncommitted h free = impossible (sym (free refl) ∙ ap (λ b. not b && true) is)
    by true is (committed m) h free = own m (subst (λ u. IfSome u (λ x. m < x.begin)) (ap transactions (eqb-true p.session session is) ∙ e) h.2)
    by false is (committed m) h free = sym (ap (λ b. not b || false) (sym (ap (λ b. not b && nat_lt t.begin m) is) ∙ free refl))
    by same is undone h free = refl

pub finds_newest : (base : Records) (dropped kept : List PastChange) (state : DatabaseState) → IsHistory base dropped kept state → (session : ℕ) (t : Transaction) (change : Change) → transaction_of state session ≡ Some t
    → is_sum change ≡ false → has_write_conflict state session change ≡ false
    → records_of (newest state) (changed_table change) (changed_bookmark change) ≡ records_of (view state session) (changed_table change) (changed_bookmark change)
finds_newest base dropped kept state h session t change e sum free =
    ap (λ (r : Records). r (changed_table change) (changed_bookmark change)) (newest_records base dropped kept state h)
    ∙ same_at is_standing (sees session (transaction_of state session)) (changed_table change) (changed_bookmark change) kept
    (all_both (IsPlaced state.number state.tables (transaction_of state)) (λ p. is_standing p ≡ true → collide p.change change ≡ true → is_concurrent session (Some t) p ≡ false)
    (λ p. is_change_of (changed_table change) (changed_bookmark change) p.change ≡ true → is_standing p ≡ sees session (transaction_of state session) p)
    (λ p placed f mine. seen_unless state.number (transaction_of state) session t p e placed.2 (λ live. f live (hit p.change mine)) ∙ ap (λ u. sees session u p) (sym e))
    kept h.keeps.placed (free_of base dropped kept session change t state h e free))
    base base refl
    ∙ ap (λ (r : Records). r (changed_table change) (changed_bookmark change)) (sym (view_records base dropped kept state h session))
  where
    itself : is_change_of (changed_table change) (changed_bookmark change) change ≡ true
    itself = and_from _ _ (self_equal (changed_table change)) (equal_bytes (changed_bookmark change) (changed_bookmark change) refl)

    hit : (p : Change) → is_change_of (changed_table change) (changed_bookmark change) p ≡ true → collide p change ≡ true
    hit p mine = and_from _ _ (both_touch (changed_table change) (changed_bookmark change) p change mine itself) (none (is_sum p) (is_sum change) sum)
      where
        none : (a b : Bool) → b ≡ false → not (a && b) ≡ true
        none true b e = ap not e
        none false b e = refl
