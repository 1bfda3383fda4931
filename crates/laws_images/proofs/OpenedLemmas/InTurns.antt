-- Changes of a history, taken back from the newest.
use Rattle.std.proofs.Common.{◌≡◌, ℕ, Bool, true, false, not, cond, Option, Some, None, List, [], ◌∷◌, refl, sym, ap, subst, ◌∙◌}
use Rattle.std.specs.Prelude.{◌==◌, ◌&&◌, bytes_eq, is_some}
use Rattle.std.proofs.lemmas.Bool.{eqb-true}
use Rattle.common_lemmas.proofs.Booleans.{and_left, and_right, impossible}
use Rattle.common_lemmas.proofs.Numbers.{equal_bytes, same_bytes, self_equal}
use Rattle.column_set.specs.RecordValues.{RecordFields}
use Rattle.column_set.specs.declared.changes.Change.{Change}
use Rattle.column_set.specs.declared.changes.Change.TheVariants.{Put, Drop, Hold, Add}
use Rattle.database_state.specs.Changes.{is_sum}
use Rattle.column_set.specs.ChangedRecords.{changed_table, changed_bookmark}
use Rattle.database_state.specs.State.{PastChange, is_undone}
use Rattle.database_state.specs.Table.{Table, table_with_id}
use Rattle.laws_images.specs.GivenBack.{AllStand, GivesBack, SumsGiveBack}
use Rattle.laws_images.specs.InTurn.{AreInTurn, CanLeave}
use Rattle.laws_images.specs.ShownStates.{tables_before}
use Rattle.laws_images.proofs.OpenedLemmas.TakenBack.{inverse_bookmark, inverse_table, stays_before, step_back}
use Rattle.laws_versions.proofs.ChangeLemmas.Folds.{folded-cons}
use Rattle.laws_versions.specs.Records.{Records, is_change_of, record_after, records_after, records_after_items, records_of}
use Rattle.laws_versions.specs.History.{HasBefores}
use Rattle.laws_versions.specs.Readers.{is_rewrite, is_standing}
use Rattle.version_store.specs.HeldChanges.{kind_of}
use Rattle.version_store.specs.declared.calls.ChangeKind.{ChangeKind}
use Rattle.laws_engine.specs.HeldRecords.{HeldRecord, inverse, inverse_of}
use Rattle.laws_engine.specs.Holding.{AllMatch, Matches}

-- ---- one record

own : Records → Change → Option RecordFields
own records change = records (changed_table change) (changed_bookmark change)

inverse_on : Change → Option RecordFields → Change
inverse_on change held = inverse_of (kind_of change) (changed_table change) (changed_bookmark change) held

-- the change that takes another back gives its record what was there
given_back : (change : Change) (held before : Option RecordFields) → (is_rewrite change ≡ true → held ≡ before) → GivesBack change before → record_after (inverse_on change held) (record_after change before) ≡ before
unfolding inverse_on
given_back (Put t b copied values) None before same back = same refl
given_back (Put t b copied values) (Some old) before same back = same refl
given_back (Drop t b) None before same back = same refl
given_back (Drop t b) (Some old) before same back = same refl
given_back (Hold t b) held before same back = refl
given_back (Add t b column amount) held before same back = back

-- and the change can have left what it leaves
can_leave : (change : Change) (before : Option RecordFields) → CanLeave (kind_of change) before (record_after change before)
can_leave (Put t b copied values) before = refl
can_leave (Drop t b) before = refl
can_leave (Hold t b) before = tt
can_leave (Add t b column amount) before = refl

-- ---- all records

at_itself : (change : Change) → is_change_of (changed_table change) (changed_bookmark change) change ≡ true
at_itself change = ap (λ b. b && bytes_eq (changed_bookmark change) (changed_bookmark change)) (self_equal (changed_table change)) ∙ equal_bytes (changed_bookmark change) (changed_bookmark change) refl

after_own : (base : Records) (change : Change) → own (records_after base change) change ≡ record_after change (own base change)
unfolding own
after_own base change = ap (λ b. cond b (record_after change (base (changed_table change) (changed_bookmark change))) (base (changed_table change) (changed_bookmark change))) (at_itself change)

same_place : (change : Change) (held : Option RecordFields) (t : ℕ) (b : List ℕ) → is_change_of t b (inverse_on change held) ≡ is_change_of t b change
unfolding inverse_on
same_place change held t b =
    ap (λ n. (n == t) && bytes_eq (changed_bookmark (inverse_on change held)) b) (inverse_table (kind_of change) (changed_table change) (changed_bookmark change) held)
    ∙ ap (λ (k : List ℕ). (changed_table change == t) && bytes_eq k b) (inverse_bookmark (kind_of change) (changed_table change) (changed_bookmark change) held)

all_back_at : (base : Records) (change : Change) (held : Option RecordFields) → record_after (inverse_on change held) (record_after change (own base change)) ≡ own base change
    → (t : ℕ) (b : List ℕ) → records_after (records_after base change) (inverse_on change held) t b ≡ base t b
unfolding own
all_back_at base change held back t b =
    ap (λ (x : Bool). cond x (record_after (inverse_on change held) (records_after base change t b)) (records_after base change t b)) (same_place change held t b)
    ∙ at (is_change_of t b change) refl
  where
    here : is_change_of t b change ≡ true → base (changed_table change) (changed_bookmark change) ≡ base t b
    here e = ap (λ n. base n (changed_bookmark change)) (eqb-true (changed_table change) t (and_left (changed_table change == t) (bytes_eq (changed_bookmark change) b) e)) ∙ ap (base t) (same_bytes (changed_bookmark change) b (and_right (changed_table change == t) (bytes_eq (changed_bookmark change) b) e))

    at : (x : Bool) → is_change_of t b change ≡ x → cond x (record_after (inverse_on change held) (cond x (record_after change (base t b)) (base t b))) (cond x (record_after change (base t b)) (base t b)) ≡ base t b
    at true e = subst (λ (o : Option RecordFields). record_after (inverse_on change held) (record_after change o) ≡ o) (here e) back
    at false e = refl

all_back : (base : Records) (change : Change) (held : Option RecordFields) → record_after (inverse_on change held) (record_after change (own base change)) ≡ own base change → records_after (records_after base change) (inverse_on change held) ≡ base
all_back base change held back = λ i t b. all_back_at base change held back t b i

-- ---- a held change is the one that it matches

inverse_is : (item : PastChange) (h : HeldRecord) → Matches item h → inverse h ≡ inverse_on item.change h.before
unfolding inverse_on
inverse_is item h m =
    ap (λ k. inverse_of k h.table h.bookmark h.before) m.kind
    ∙ ap (λ t. inverse_of (kind_of item.change) t h.bookmark h.before) m.table
    ∙ ap (λ (b : List ℕ). inverse_of (kind_of item.change) (changed_table item.change) b h.before) m.bookmark

own_of : (item : PastChange) (h : HeldRecord) → Matches item h → (r : Records) → r h.table h.bookmark ≡ own r item.change
unfolding own
own_of item h m r = ap (λ t. r t h.bookmark) m.table ∙ ap (r (changed_table item.change)) m.bookmark

rewrites_no_sum : (change : Change) → is_rewrite change ≡ true → is_sum change ≡ false
rewrites_no_sum (Put t b copied values) e = refl
rewrites_no_sum (Drop t b) e = refl
rewrites_no_sum (Hold t b) e = refl
rewrites_no_sum (Add t b column amount) e = impossible e

not_undone : (b : Bool) → not b ≡ true → b ≡ false
not_undone true e = impossible e
not_undone false e = refl

-- ---- all changes

-- one change more, before the others
one_more : (base : Records) (item : PastChange) (h : HeldRecord) (held : List HeldRecord) (tables : List Table) → Matches item h → (is_standing item ≡ true) × (is_some (table_with_id tables (changed_table item.change)) ≡ true)
    → (is_rewrite item.change ≡ true → item.before ≡ own base item.change) → GivesBack item.change (own base item.change)
    → AreInTurn held tables × (records_of (tables_before held tables) ≡ records_after base item.change) → AreInTurn (h ∷ held) tables × (records_of (tables_before (h ∷ held) tables) ≡ base)
one_more base item h held tables m stand before sum rest = (turn, step_back h held tables turn ∙ ap (λ (r : Records). records_after r (inverse h)) rest.1 ∙ undone)
  where
    change : Change
    change = item.change

    left : Records
    left = records_after base change

    back : record_after (inverse_on change h.before) (record_after change (own base change)) ≡ own base change
    back = given_back change h.before (own base change) (λ rewrite. m.before stand.0 rewrite ∙ before rewrite) sum

    undone : records_after left (inverse h) ≡ base
    undone = ap (records_after left) (inverse_is item h m) ∙ all_back base change h.before back

    after_is : records_of (tables_before held tables) h.table h.bookmark ≡ record_after change (own base change)
    after_is = ap (λ (r : Records). r h.table h.bookmark) rest.1 ∙ own_of item h m left ∙ after_own base change

    before_is : record_after (inverse h) (records_of (tables_before held tables) h.table h.bookmark) ≡ own base change
    before_is = ap (λ (c : Change). record_after c (records_of (tables_before held tables) h.table h.bookmark)) (inverse_is item h m) ∙ ap (record_after (inverse_on change h.before)) after_is ∙ back

    leaves : CanLeave h.kind (record_after (inverse h) (records_of (tables_before held tables) h.table h.bookmark)) (records_of (tables_before held tables) h.table h.bookmark)
    leaves =
        subst (λ (k : ChangeKind). CanLeave k (record_after (inverse h) (records_of (tables_before held tables) h.table h.bookmark)) (records_of (tables_before held tables) h.table h.bookmark)) (sym m.kind)
        (subst (λ (o : Option RecordFields). CanLeave (kind_of change) o (records_of (tables_before held tables) h.table h.bookmark)) (sym before_is)
        (subst (λ (o : Option RecordFields). CanLeave (kind_of change) (own base change) o) (sym after_is) (can_leave change (own base change))))

    turn : AreInTurn (h ∷ held) tables
    turn = (
      ap is_undone m.status ∙ not_undone (is_undone item.status) stand.0,
      stays_before held tables h.table ∙ ap (λ n. is_some (table_with_id tables n)) m.table ∙ stand.1,
      leaves,
      rest.0,
    )

pub in_turn : (base : Records) (items : List PastChange) (held : List HeldRecord) (tables : List Table) → AllMatch items held → AllStand tables items → HasBefores base items → SumsGiveBack base items
    → records_after_items is_standing base items ≡ records_of tables → AreInTurn held tables × (records_of (tables_before held tables) ≡ base)
unfolding own
in_turn base [] [] tables m stand befores sums e = (tt, sym e)
in_turn base [] (h ∷ held) tables m stand befores sums e = absurd m
in_turn base (item ∷ items) [] tables m stand befores sums e = absurd m
in_turn base (item ∷ items) (h ∷ held) tables m stand befores sums e =
    one_more base item h held tables m.0 stand.0 (λ rewrite. befores.0 stand.0.0 (rewrites_no_sum item.change rewrite)) sums.0
    (in_turn (records_after base item.change) items held tables m.1 stand.1
    (subst (λ (b : Bool). HasBefores (cond b (records_after base item.change) base) items) stand.0.0 befores.1)
    sums.1
    (sym (folded-cons is_standing base item items ∙ ap (λ (b : Bool). records_after_items is_standing (cond b (records_after base item.change) base) items) stand.0.0) ∙ e))
