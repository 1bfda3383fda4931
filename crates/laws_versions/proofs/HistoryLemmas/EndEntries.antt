-- What a release, a commit, a change, a schema step and a clean leave of the history.
use Rattle.std.proofs.Common.{◌≡◌, ◌≢◌, ℕ, ◌+◌, ◌-◌, ◌<◌, ◌≤◌, Bool, true, false, ◌&&◌, ◌||◌, cond, List, [], ◌∷◌, ◌++◌, Option, Some, None, refl, sym, ap, subst, ◌∙◌, arith, append_assoc}
use Rattle.std.specs.Prelude.{◌==◌, nat_le, nat_lt, find, option_and_then, is_some, map, filter, fold, IfSome, if◌then◌else◌}
use Rattle.std.specs.List.{AllByRecursion, list_any}
use Rattle.std.proofs.lemmas.Bool.Decides.{nat_tests}
use Rattle.std.proofs.lemmas.List.{map-append}
use Rattle.std.proofs.lemmas.Bool.{and_from, eqb-true}
use Rattle.common_lemmas.proofs.Booleans.{and_left, and_right, impossible}
use Rattle.common_lemmas.proofs.Lists.{all_append, all_each, all_filter, all_map, all_weaker}
use Rattle.common_lemmas.proofs.Numbers.{equal_bytes, self_equal}
use Rattle.column_set.specs.declared.changes.Change.{Change}
use Rattle.column_set.specs.declared.changes.Change.TheVariants.{Put, Drop, Hold, Add}
use Rattle.index_derive.specs.declared.schema_calls.SchemaStep.{SchemaStep}
use Rattle.database_state.specs.Table.{Table, table_with_id, record_in}
use Rattle.database_state.specs.Changes.{without_copied, rows_after, tables_after, tables_after_all}
use Rattle.column_set.specs.ChangedRecords.{changed_table, changed_bookmark}
use Rattle.database_state.specs.State.{DatabaseState, LiveSession, PastChange, Transaction, Status, uncommitted, committed, undone, is_open, is_open_change_of, change_of, transaction_of, levels_of, levels, open_changes_of, open_changes}
use Rattle.database_state.specs.View.{newest}
use Rattle.database_state.specs.Conflicts.{collide, is_after_begin, is_concurrent, concurrent_changes, has_write_conflict}
use Rattle.database_state.specs.VersionStore.{is_needed, is_needed_status}
use Rattle.database_state.specs.Step.{with_transaction, at_levels, with_levels, with_changes_at, is_at_level, every_change, released, all_committed, changed, with_schema_step}
use Rattle.laws_versions.specs.Records.{IsThere, Records, after_item, is_change_of, record_after, records_after_items, records_of}
use Rattle.laws_versions.proofs.ChangeLemmas.Projecting.{projected}
use Rattle.laws_versions.proofs.ChangeLemmas.Tests.{or_first, or_second}
use Rattle.laws_versions.specs.History.{IsBegun, IsHistory, IsOpenIn, IsPassed, IsPassedBy, IsPlaced, IsPlacedBy, KeepsHistory, without_rows}
use Rattle.laws_versions.specs.KeptSteps.{committed_own, lowered_own, new_change, with_next_number}
use Rattle.laws_versions.specs.Readers.{is_standing, was_committed}
use Rattle.laws_versions.proofs.HistoryLemmas.Befores.{at}
use Rattle.laws_versions.proofs.HistoryLemmas.Beginning.{keeps_changed}
use Rattle.laws_versions.proofs.HistoryLemmas.Ending.{keeps_cleaned, keeps_committed, keeps_lowered}
use Rattle.laws_versions.proofs.HistoryLemmas.Entries.{history_later, history_moved, passed_own}
use Rattle.laws_versions.proofs.HistoryLemmas.Keeping.{Follows, passed_followed, passed_later, with_at}
use Rattle.laws_versions.proofs.HistoryLemmas.SeenRecords.{are_there, folded, newest_records, of_kept, open_after}
use Rattle.laws_versions.proofs.HistoryLemmas.Transactions.{transaction-ended, transaction-levels}
use Rattle.laws_versions.proofs.HistoryLemmas.Viewing.{same_there}

map_same : {X : Type 0} (f : X → X) (xs : List X) → AllByRecursion (λ x. f x ≡ x) xs → map f xs ≡ xs
map_same f [] h = refl
map_same f (x ∷ xs) h = λ i. h.0 i ∷ map_same f xs h.1 i

-- ---- a level released

lowered_past : (base : Records) (dropped kept : List PastChange) (label level : ℕ) (state : DatabaseState) → IsHistory base dropped kept state → map (lowered_own label level) state.past ≡ dropped ++ map (lowered_own label level) kept
lowered_past base dropped kept label level state h =
    ap (map (lowered_own label level)) h.past ∙ map-append (lowered_own label level) dropped kept
    ∙ ap (λ xs. xs ++ map (lowered_own label level) kept)
    (map_same (lowered_own label level) dropped (all_weaker (IsPassed state.number (transaction_of state)) (λ item. lowered_own label level item ≡ item)
    (λ item p. ap (λ b. cond (b && (item.level == level)) (record item { level = item.level - 1 }) item) (passed_own state.number (transaction_of state) label item p)) dropped h.passed))

fewer : (t : Transaction) → 2 ≤ t.levels → Follows (Some t) (Some (record t { levels = t.levels - 1 }))
fewer t two = (refl, refl, omega (arith, two))

released_by : (base : Records) (dropped kept : List PastChange) (label : ℕ) (state : DatabaseState) (t : Transaction) → transaction_of state label ≡ Some t → 2 ≤ t.levels → IsHistory base dropped kept state
    → IsHistory base dropped (map (lowered_own label t.levels) kept) (with_levels label (λ n. n - 1) (with_changes_at label (is_at_level t.levels) (λ item. record item { level = item.level - 1 }) state))
released_by base dropped kept label state t e two h =
    history_moved base dropped (map (lowered_own label t.levels) kept) label (Some (record t { levels = t.levels - 1 })) lowering (with_levels label (λ n. n - 1) lowering) refl refl refl
    (transaction-levels label (λ n. n - 1) lowering ∙ ap (λ u. with_at label (at_levels (λ n. n - 1) u) (transaction_of state)) e)
    (subst (λ u. Follows u (Some (record t { levels = t.levels - 1 }))) (sym e) (fewer t two))
    (all_map (λ item. is_open_change_of label item ≡ true → IsOpenIn item (transaction_of state label) → IsOpenIn item (Some (record t { levels = t.levels - 1 }))) (lowered_own label t.levels) kept
    (all_each (λ item. is_open_change_of label (lowered_own label t.levels item) ≡ true → IsOpenIn (lowered_own label t.levels item) (transaction_of state label) → IsOpenIn (lowered_own label t.levels item) (Some (record t { levels = t.levels - 1 })))
    (λ item own inside. one item own (subst (IsOpenIn (lowered_own label t.levels item)) e inside)) kept))
    made
  where
    lowering : DatabaseState
    lowering = with_changes_at label (is_at_level t.levels) (λ item. record item { level = item.level - 1 }) state

    made : IsHistory base dropped (map (lowered_own label t.levels) kept) (with_changes_at label (is_at_level t.levels) (λ item. record item { level = item.level - 1 }) state)
    made = record {
      past = lowered_past base dropped kept label t.levels state h;
      passed = h.passed;
      keeps = keeps_lowered state.number state.tables (transaction_of state) base kept label t e two h.keeps;
    }

    one : (item : PastChange) → is_open_change_of label (lowered_own label t.levels item) ≡ true → IsOpenIn (lowered_own label t.levels item) (Some t) → IsOpenIn (lowered_own label t.levels item) (Some (record t { levels = t.levels - 1 }))
    one item =
        elim (is_open_change_of label item && (item.level == t.levels)) as (λ b. (is_open_change_of label item && (item.level == t.levels)) ≡ b
        → is_open_change_of label (cond b (record item { level = item.level - 1 }) item) ≡ true → IsOpenIn (cond b (record item { level = item.level - 1 }) item) (Some t) → IsOpenIn (cond b (record item { level = item.level - 1 }) item) (Some (record t { levels = t.levels - 1 }))) [
          | true ↦ λ e own inside. (inside.0, inside.1, at_last item.level t.levels (eqb-true item.level t.levels (and_right (is_open_change_of label item) _ e)))
          | false ↦ λ e own inside. (inside.0, inside.1, below item.level t.levels (beside (is_open_change_of label item) (item.level == t.levels) own e) inside.2)
        ] refl
      where
        at_last : (a b : ℕ) → a ≡ b → a - 1 ≤ b - 1
        at_last a b e = omega arith

        below : (a b : ℕ) → (a == b) ≡ false → a ≤ b → a ≤ b - 1
        below a b ne le = grind (arith, nat_tests)

        beside : (a b : Bool) → a ≡ true → (a && b) ≡ false → b ≡ false
        beside true b e g = g
        beside false b e g = impossible e

pub history_released : (base : Records) (dropped kept : List PastChange) (label : ℕ) (state : DatabaseState) → nat_le 2 (levels state label) ≡ true → IsHistory base dropped kept state
    → IsHistory base dropped (map (lowered_own label (levels state label)) kept) (released label state)
history_released base dropped kept label state two h = by (transaction_of state label) refl two
  where
    le_from : (a b : ℕ) → nat_le a b ≡ true → a ≤ b
    le_from a b e = grind (arith, nat_tests)

    never : nat_le 2 0 ≡ true → ⊥
    never e = impossible e

    by : (t : Option Transaction) → transaction_of state label ≡ t → nat_le 2 (levels_of t) ≡ true
        → IsHistory base dropped (map (lowered_own label (levels state label)) kept) (with_levels label (λ n. n - 1) (with_changes_at label (is_at_level (levels state label)) (λ item. record item { level = item.level - 1 }) state))
    by None e two = absurd (never two)
    by (Some t) e two =
        subst (λ (k : ℕ). IsHistory base dropped (map (lowered_own label k) kept) (with_levels label (λ n. n - 1) (with_changes_at label (is_at_level k) (λ item. record item { level = item.level - 1 }) state)))
        (sym (ap levels_of e)) (released_by base dropped kept label state t e (le_from 2 t.levels two) h)

-- ---- a commit

pub same_definitions : (tables : List Table) (changes : List Change) → map without_rows (tables_after_all tables changes) ≡ map without_rows tables
same_definitions tables [] = refl
same_definitions tables (change ∷ changes) = same_definitions (tables_after tables change) changes ∙ one tables
  where
    one : (ts : List Table) → map without_rows (tables_after ts change) ≡ map without_rows ts
    one [] = refl
    one (t ∷ ts) = λ i. same t i ∷ one ts i
      where
        same : (t : Table) → without_rows (if t.id == changed_table change then record t { rows = rows_after t.rows change } else t) ≡ without_rows t
        same t = elim (t.id == changed_table change) as (λ b. without_rows (cond b (record t { rows = rows_after t.rows change }) t) ≡ without_rows t) [ true ↦ refl | false ↦ refl ]

commit_every : (label number : ℕ) (item : PastChange) → (if is_open_change_of label item && every_change item then record item { status = committed number } else item) ≡ committed_own label number item
commit_every label number item = ap (λ b. cond b (record item { status = committed number }) item) (with_true (is_open_change_of label item))
  where
    with_true : (b : Bool) → (b && true) ≡ b
    with_true true = refl
    with_true false = refl

pub history_committed : (base : Records) (dropped kept : List PastChange) (label : ℕ) (state : DatabaseState) → IsHistory base dropped kept state
    → IsHistory base dropped (map (committed_own label (state.number + 1)) kept) (all_committed label (with_next_number state))
history_committed base dropped kept label state h = record {
  past = ap (λ f. map f state.past) (λ i item. commit_every label (state.number + 1) item i)
      ∙ ap (map (committed_own label (state.number + 1))) h.past ∙ map-append (committed_own label (state.number + 1)) dropped kept
      ∙ ap (λ xs. xs ++ map (committed_own label (state.number + 1)) kept)
      (map_same (committed_own label (state.number + 1)) dropped (all_weaker (IsPassed state.number (transaction_of state)) (λ item. committed_own label (state.number + 1) item ≡ item)
      (λ item p. ap (λ b. cond b (record item { status = committed (state.number + 1) }) item) (passed_own state.number (transaction_of state) label item p)) dropped h.passed));
  passed = subst (λ t. AllByRecursion (IsPassed (state.number + 1) t) dropped) (sym ended)
      (passed_followed (state.number + 1) (transaction_of state) (with_at label None (transaction_of state)) follows dropped (passed_later state.number (transaction_of state) dropped h.passed));
  keeps = subst (λ t. KeepsHistory (state.number + 1) (tables_after_all state.tables (open_changes_of label state.past)) t base (map (committed_own label (state.number + 1)) kept)) (sym ended)
      (keeps_committed label state.number state.tables (tables_after_all state.tables (open_changes_of label state.past)) (transaction_of state) base kept made (same_definitions state.tables (open_changes_of label state.past)) h.keeps);
}
  where
    own_open : (item : PastChange) → is_open_change_of label item ≡ true → is_open item.status ≡ true
    own_open item e = and_left _ _ e

    committing : DatabaseState
    committing = with_changes_at label every_change (λ item. record item { status = committed (state.number + 1) }) (record (with_next_number state) { tables = tables_after_all state.tables (open_changes_of label state.past) })

    ended : transaction_of (with_transaction label None committing) ≡ with_at label None (transaction_of state)
    ended = transaction-ended label committing

    one_follows : (P : Transaction → Type 0) → ((t : Transaction) → P t → 1 ≤ t.levels) → (t : Option Transaction) → IfSome t P → (b : Bool) → Follows t (cond b None t)
    one_follows P f t h true = tt
    one_follows P f None h false = tt
    one_follows P f (Some t) h false = (refl, refl, f t h)

    follows : (x : ℕ) → Follows (transaction_of state x) (with_at label None (transaction_of state) x)
    follows x = one_follows (IsBegun state.number state.tables base kept) (λ t b. b.levels) (transaction_of state x) (h.keeps.begun x) (x == label)

    made : records_of (tables_after_all state.tables (open_changes_of label state.past)) ≡ records_after_items (λ item. was_committed None item || is_open_change_of label item) base kept
    made =
        ap (λ items. records_of (tables_after_all state.tables (map change_of items))) (of_kept base dropped kept state h (is_open_change_of label) own_open)
        ∙ folded state.tables (filter (is_open_change_of label) kept) (all_filter (λ item. IsThere state.tables item.change) (is_open_change_of label) kept (are_there state.number state.tables (transaction_of state) base kept h.keeps))
        ∙ ap (λ r. fold after_item r (filter (is_open_change_of label) kept)) h.keeps.committed
        ∙ open_after (transaction_of state) None (is_open_change_of label) own_open base kept h.keeps.in_order

-- ---- a change

pub back : {X : Type 0} (P : X → Type 0) (xs ys : List X) → AllByRecursion P (xs ++ ys) → AllByRecursion P ys
back P [] ys h = h
back P (x ∷ xs) ys h = back P xs ys h.1

pub no_conflict : (test concurrent : PastChange → Bool) (xs : List PastChange) → list_any test (filter concurrent xs) ≡ false → AllByRecursion (λ x. test x ≡ true → concurrent x ≡ false) xs
no_conflict test concurrent [] h = tt
no_conflict test concurrent (x ∷ xs) h =
    elim (concurrent x) as (λ b. concurrent x ≡ b → list_any test (cond b (x ∷ filter concurrent xs) (filter concurrent xs)) ≡ false → (test x ≡ true → b ≡ false) × AllByRecursion (λ x. test x ≡ true → concurrent x ≡ false) xs) [
      | true ↦ λ e g. ((λ hit. clash (test x) (list_any test (filter concurrent xs)) hit g), no_conflict test concurrent xs (right (test x) (list_any test (filter concurrent xs)) g))
      | false ↦ λ e g. ((λ hit. refl), no_conflict test concurrent xs g)
    ] refl h
  where
    clash : (a b : Bool) → a ≡ true → (a || b) ≡ false → true ≡ false
    clash true b e g = g
    clash false b e g = impossible e

    right : (a b : Bool) → (a || b) ≡ false → b ≡ false
    right true b g = impossible (sym g)
    right false b g = g

pub free_of : (base : Records) (dropped kept : List PastChange) (label : ℕ) (change : Change) (t : Transaction) (state : DatabaseState) → IsHistory base dropped kept state → transaction_of state label ≡ Some t → has_write_conflict state label change ≡ false
    → AllByRecursion (λ p. is_standing p ≡ true → collide p.change change ≡ true → is_concurrent label (Some t) p ≡ false) kept
unfolding has_write_conflict concurrent_changes
free_of base dropped kept label change t state h e free =
    all_weaker (λ p. collide p.change change ≡ true → is_concurrent label (transaction_of state label) p ≡ false) (λ p. is_standing p ≡ true → collide p.change change ≡ true → is_concurrent label (Some t) p ≡ false)
    (λ p f live hit. subst (λ u. is_concurrent label u p ≡ false) e (f hit)) kept
    (back (λ p. collide p.change change ≡ true → is_concurrent label (transaction_of state label) p ≡ false) dropped kept
    (subst (λ items. AllByRecursion (λ p. collide p.change change ≡ true → is_concurrent label (transaction_of state label) p ≡ false) items) h.past
    (no_conflict (λ item. collide item.change change) (is_concurrent label (transaction_of state label)) state.past free)))

there_in_newest : (state : DatabaseState) (id : ℕ) → is_some (table_with_id state.tables id) ≡ true → is_some (table_with_id (newest (with_next_number state)) id) ≡ true
unfolding newest
there_in_newest state id there = same_there (tables_after_all state.tables (open_changes state.past)) state.tables (same_definitions state.tables (open_changes state.past)) id ∙ there

-- a change as it is, also a copied put
abbrev plain_change : ℕ → Change → DatabaseState → PastChange
plain_change label change state = record {
  number = state.number;
  session = label;
  level = levels state label;
  change = change;
  before = record_in (newest state) (changed_table change) (changed_bookmark change);
  after = record_in (tables_after (newest state) change) (changed_table change) (changed_bookmark change);
  status = uncommitted;
}

abbrev plainly_changed : ℕ → Change → DatabaseState → DatabaseState
plainly_changed label change state = record state { past = state.past ++ plain_change label change state ∷ [] }

history_plainly_changed : (base : Records) (dropped kept : List PastChange) (label : ℕ) (change : Change) (t : Transaction) (state : DatabaseState) → transaction_of state label ≡ Some t → has_write_conflict state label change ≡ false
    → is_some (table_with_id state.tables (changed_table change)) ≡ true → IsHistory base dropped kept state
    → IsHistory base dropped (kept ++ plain_change label change (with_next_number state) ∷ []) (plainly_changed label change (with_next_number state))
history_plainly_changed base dropped kept label change t state e free there h = record {
  past = ap (λ xs. xs ++ plain_change label change (with_next_number state) ∷ []) h.past ∙ append_assoc dropped kept (plain_change label change (with_next_number state) ∷ []);
  passed = passed_later state.number (transaction_of state) dropped h.passed;
  keeps = keeps_changed state.number state.tables (transaction_of state) base kept t (plain_change label change (with_next_number state)) refl refl (ap levels_of e) e there made
      (λ sum. ap (λ (r : Records). at r change) (newest_records base dropped kept (with_next_number state) (history_later base dropped kept state h)))
      (free_of base dropped kept label change t state h e free) h.keeps;
}
  where
    one_table : (c : Change) → is_change_of (changed_table c) (changed_bookmark c) c ≡ true
    one_table c = and_from _ _ (self_equal (changed_table c)) (equal_bytes (changed_bookmark c) (changed_bookmark c) refl)

    made : record_in (tables_after (newest (with_next_number state)) change) (changed_table change) (changed_bookmark change) ≡ record_after change (record_in (newest (with_next_number state)) (changed_table change) (changed_bookmark change))
    made =
        ap (λ (r : Records). r (changed_table change) (changed_bookmark change)) (projected (newest (with_next_number state)) change (there_in_newest state (changed_table change) there))
        ∙ ap (λ b. cond b (record_after change (record_in (newest (with_next_number state)) (changed_table change) (changed_bookmark change))) (record_in (newest (with_next_number state)) (changed_table change) (changed_bookmark change))) (one_table change)

uncopied_conflict : (state : DatabaseState) (label : ℕ) (change : Change) → has_write_conflict state label (without_copied change) ≡ has_write_conflict state label change
unfolding has_write_conflict
uncopied_conflict state label (Put table bookmark copied values) = refl
uncopied_conflict state label (Drop table bookmark) = refl
uncopied_conflict state label (Hold table bookmark) = refl
uncopied_conflict state label (Add table bookmark column amount) = refl

pub history_changed : (base : Records) (dropped kept : List PastChange) (label : ℕ) (change : Change) (t : Transaction) (state : DatabaseState) → transaction_of state label ≡ Some t → has_write_conflict state label change ≡ false
    → is_some (table_with_id state.tables (changed_table change)) ≡ true → IsHistory base dropped kept state
    → IsHistory base dropped (kept ++ new_change label change (with_next_number state) ∷ []) (changed label change (with_next_number state))
history_changed base dropped kept label (Put table bookmark copied values) t state e free there h =
    history_plainly_changed base dropped kept label (Put table bookmark None values) t state e (uncopied_conflict state label (Put table bookmark copied values) ∙ free) there h
history_changed base dropped kept label (Drop table bookmark) t state e free there h = history_plainly_changed base dropped kept label (Drop table bookmark) t state e free there h
history_changed base dropped kept label (Hold table bookmark) t state e free there h = history_plainly_changed base dropped kept label (Hold table bookmark) t state e free there h
history_changed base dropped kept label (Add table bookmark column amount) t state e free there h = history_plainly_changed base dropped kept label (Add table bookmark column amount) t state e free there h

-- ---- a schema step

pub history_defined : (base : Records) (dropped kept : List PastChange) (made : SchemaStep) (state : DatabaseState) → ((x : ℕ) → transaction_of state x ≡ None) → IsHistory base dropped kept state
    → IsHistory (records_of (with_schema_step made state).tables) (dropped ++ kept) [] (with_schema_step made state)
history_defined base dropped kept made state none h = record {
  past = h.past ∙ last (dropped ++ kept);
  passed = all_append (IsPassed state.number (transaction_of state)) dropped kept h.passed
      (all_weaker (IsPlaced state.number state.tables (transaction_of state)) (IsPassed state.number (transaction_of state)) (λ item p. by item item.status p.2) kept h.keeps.placed);
  keeps = record {
    committed = refl;
    begun = λ x. subst (λ u. IfSome u (IsBegun state.number (with_schema_step made state).tables (records_of (with_schema_step made state).tables) [])) (sym (none x)) tt;
    in_order = tt;
    numbers = tt;
    levels = tt;
    befores = tt;
    placed = tt;
  };
}
  where
    last : (xs : List PastChange) → xs ≡ xs ++ []
    last [] = refl
    last (x ∷ xs) = ap (λ ys. x ∷ ys) (last xs)

    by : (item : PastChange) (s : Status) → IsPlacedBy state.number (transaction_of state) item s → IsPassedBy state.number (transaction_of state) s
    by item uncommitted h = subst (IsOpenIn item) (none item.session) h
    by item (committed k) h = (h.1, λ x. subst (λ u. IfSome u (λ t. k < t.begin)) (sym (none x)) tt)
    by item undone h = tt

-- ---- a clean

-- what is not needed was passed
unneeded_status : (state : DatabaseState) (item : PastChange) (s : Status) → IsPlacedBy state.number (transaction_of state) item s → is_needed_status state.sessions s ≡ false → IsPassedBy state.number (transaction_of state) s
unneeded_status state item uncommitted h e = impossible (sym e)
unneeded_status state item undone h e = tt
unneeded_status state item (committed at) h e = (h.1, λ session. below (transaction_of state session) (λ t found. begun state.sessions session e t found) (h.3 session))
  where
    begun : (sessions : List LiveSession) (session : ℕ) → list_any (λ s. is_after_begin s.transaction at) sessions ≡ false → (t : Transaction) → option_and_then (λ s. s.transaction) (find (λ s. s.label == session) sessions) ≡ Some t
        → nat_lt t.begin at ≡ false
    begun [] session e t found = cc
    begun (s ∷ sessions) session e t found =
        elim (s.label == session) as (λ b. option_and_then (λ s. s.transaction) (cond b (Some s) (find (λ s. s.label == session) sessions)) ≡ Some t → nat_lt t.begin at ≡ false) [
          | true ↦ λ f. ap (λ u. is_after_begin u at) (sym f) ∙ or_first (is_after_begin s.transaction at) _ e
          | false ↦ λ f. begun sessions session (or_second (is_after_begin s.transaction at) _ e) t f
        ] found

    below : (u : Option Transaction) → ((t : Transaction) → u ≡ Some t → nat_lt t.begin at ≡ false) → IfSome u (λ t. at ≢ t.begin) → IfSome u (λ t. at < t.begin)
    below None f ne = tt
    below (Some t) f ne = strictly at t.begin (f t refl) ne
      where
        strictly : (a b : ℕ) → nat_lt b a ≡ false → (a ≡ b → ⊥) → a < b
        strictly a b e ne = grind (arith, nat_tests)

pub history_cleaned : (base : Records) (dropped : List PastChange) (item : PastChange) (kept : List PastChange) (state : DatabaseState) → IsHistory base dropped (item ∷ kept) state → is_needed state.sessions item ≡ false
    → IsHistory (if is_standing item then after_item base item else base) (dropped ++ item ∷ []) kept state
history_cleaned base dropped item kept state h unneeded =
    let passed : IsPassed state.number (transaction_of state) item = unneeded_status state item item.status h.keeps.placed.0.2 unneeded in
    record {
      past = h.past ∙ sym (append_assoc dropped (item ∷ []) kept);
      passed = all_append (IsPassed state.number (transaction_of state)) dropped (item ∷ []) h.passed (passed, tt);
      keeps = keeps_cleaned state.number state.tables (transaction_of state) base item kept passed h.keeps;
    }
