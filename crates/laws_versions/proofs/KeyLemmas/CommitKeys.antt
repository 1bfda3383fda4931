-- After a commit no unique index has a key twice.
use Rattle.std.proofs.Common.{◌≡◌, ℕ, ◌+◌, true, false, not, ◌&&◌, ◌||◌, cond, List, [], ◌∷◌, ◌++◌, Option, Some, None, refl, sym, ap, subst, ◌∙◌, bytes_eq}
use Rattle.std.specs.Prelude.{flat_map, map, IfSome}
use Rattle.std.specs.List.{AllByRecursion, list_all, list_any}
use Rattle.std.specs.List.Sorted.{IsStrictlySortedBy}
use Rattle.std.specs.declared.cmp.Ordering.TheVariants.{Less}
use Rattle.std.specs.Ordering.{is_eq}
use Rattle.std.specs.Cmp.Lexicographic.{texts_ties}
use Rattle.std.proofs.lemmas.List.Folds.{list_any-append}
use Rattle.std.proofs.lemmas.Bool.{false_from_ne_true, or_left, or_right}
use Rattle.common_lemmas.proofs.Lists.{all_listed, all_map, all_weaker}
use Rattle.common_lemmas.proofs.Numbers.{equal_bytes, self_equal}
use Rattle.common_lemmas.proofs.Booleans.{impossible}
use Rattle.column_set.specs.RecordValues.{RecordFields}
use Rattle.index_derive.specs.declared.rules.IndexRule.{IndexRule}
use Rattle.index_derive.specs.declared.rules.Schema.{Schema}
use Rattle.index_derive.specs.declared.log.EntryKind.TheVariants as entry
use Rattle.index_derive.specs.Entries.{has_double, has_double_key, is_unique, key_list}
use Rattle.database_state.specs.Table.{Rows, Table, row_at, schema_of, table_with_id}
use Rattle.database_state.specs.Changes.{tables_after_all}
use Rattle.column_set.specs.ChangedRecords.{changed_table}
use Rattle.database_state.specs.State.{DatabaseState, PastChange, Transaction, committed, open_changes_of, transaction_of}
use Rattle.database_state.specs.View.{view, view_in}
use Rattle.database_state.specs.Conflicts.{yields_key}
use Rattle.database_state.specs.Step.{applied, every_change, with_changes_at}
use Rattle.database_state.specs.Lawful.{is_unique_throughout}
use Rattle.laws_versions.proofs.IndexLemmas.Adding.{KeysRise}
use Rattle.index_derive.specs.RisingKeys.{AreRisingKeys, key_cmp}
use Rattle.laws_versions.proofs.IndexLemmas.Rows.{RowsRise}
use Rattle.laws_versions.proofs.IndexLemmas.Standing.{same_test}
use Rattle.laws_versions.specs.Records.{Records, records_of}
use Rattle.laws_versions.proofs.ChangeLemmas.Tests.{or_first, or_second}
use Rattle.laws_versions.specs.History.{IsHistory}
use Rattle.laws_versions.specs.KeptSteps.{committed_own, kept_after, with_next_number}
use Rattle.laws_versions.proofs.HistoryLemmas.EndEntries.{history_committed, same_definitions}
use Rattle.laws_versions.proofs.HistoryLemmas.Ending.{commit_before, commit_change}
use Rattle.laws_versions.proofs.HistoryLemmas.Keeping.{with_at}
use Rattle.laws_versions.proofs.HistoryLemmas.Lists.{all_both}
use Rattle.laws_versions.proofs.HistoryLemmas.Transactions.{transaction-ended}
use Rattle.laws_versions.specs.UniqueKeys.{AreUnique, HasFreeKeys, HasUniqueIndexes, HasUniqueKeys, IsSoundIndex, IsUniqueIndex}
use Rattle.laws_versions.specs.KeySums.{IndexesSeeNoSum, SeesNoSum, adds_to_index}
use Rattle.laws_versions.proofs.KeyLemmas.KeySums.{seen_by}
use Rattle.laws_versions.proofs.KeyLemmas.BookmarkKeys.{own_mapped}
use Rattle.laws_versions.proofs.KeyLemmas.Finding.{unique_in_view}
use Rattle.laws_versions.proofs.KeyLemmas.KeysOfEntries.{commit_after, keys_committed, keys_same}
use Rattle.laws_versions.proofs.KeyLemmas.SchemaKeys.{AreUniqueRows}
use Rattle.laws_versions.proofs.KeyLemmas.UniqueKept.{same_defined, some_at}
use Rattle.laws_versions.proofs.KeyLemmas.UniqueLaws.{rows_found}

-- ---- rows in order, of which no two share a key

less_apart : (x y : List ℕ) → key_cmp x y ≡ Less → bytes_eq x y ≡ false
less_apart x y e = texts_ties x y ∙ ap is_eq e

fresh : (k : List ℕ) (ks : List (List ℕ)) → AllByRecursion (λ y. key_cmp k y ≡ Less) ks → list_any (bytes_eq k) ks ≡ false
fresh k [] h = refl
fresh k (y ∷ ks) h = ap (λ b. b || list_any (bytes_eq k) ks) (less_apart k y h.0) ∙ fresh k ks h.1

rising_once : (ks : List (List ℕ)) → AreRisingKeys ks → has_double ks ≡ false
unfolding IsStrictlySortedBy
rising_once [] h = refl
rising_once (k ∷ ks) h = ap (λ b. b || has_double ks) (fresh k ks h.0) ∙ rising_once ks h.1

apart_lists : (ks rest : List (List ℕ)) → has_double ks ≡ false → has_double rest ≡ false → ((key : List ℕ) → list_any (bytes_eq key) ks ≡ true → list_any (bytes_eq key) rest ≡ true → ⊥) → has_double (ks ++ rest) ≡ false
apart_lists [] rest h g f = g
apart_lists (k ∷ ks) rest h g f =
    ap (λ b. b || has_double (ks ++ rest))
    (list_any-append (bytes_eq k) ks rest ∙ ap (λ b. b || list_any (bytes_eq k) rest) (or_first (list_any (bytes_eq k) ks) _ h)
    ∙ false_from_ne_true (list_any (bytes_eq k) rest) (λ also. f k (or_left (bytes_eq k k) _ (equal_bytes k k refl)) also))
    ∙ apart_lists ks rest (or_second (list_any (bytes_eq k) ks) _ h) g (λ key a b. f key (or_right (bytes_eq key k) _ a) b)

-- the row that has a key
abbrev IsHad : IndexRule → Schema → List ℕ → (List ℕ × RecordFields → Type 0) → Type 0
IsHad rule schema key P = (place : List ℕ × RecordFields) × P place × list_any (bytes_eq key) (key_list rule schema place.1) ≡ true

having : (rule : IndexRule) (schema : Schema) (key : List ℕ) (P : List ℕ × RecordFields → Type 0) (rows : Rows) → AllByRecursion P rows → list_any (bytes_eq key) (flat_map (λ place. key_list rule schema place.1) rows) ≡ true
    → IsHad rule schema key P
having rule schema key P [] h e = impossible e
having rule schema key P (row ∷ rows) h e =
    elim (list_any (bytes_eq key) (key_list rule schema row.1)) as (λ b. list_any (bytes_eq key) (key_list rule schema row.1) ≡ b → (b || list_any (bytes_eq key) (flat_map (λ place. key_list rule schema place.1) rows)) ≡ true → IsHad rule schema key P) [
      | true ↦ λ is g. (row, h.0, is)
      | false ↦ λ is g. having rule schema key P rows h.1 g
    ] refl (sym (list_any-append (bytes_eq key) (key_list rule schema row.1) (flat_map (λ place. key_list rule schema place.1) rows)) ∙ e)

once : KeysRise → (rule : IndexRule) (schema : Schema) (look : List ℕ → Option RecordFields) (rows : Rows)
    → ((one other key : List ℕ) → bytes_eq one other ≡ false → yields_key rule schema key (look one) ≡ true → yields_key rule schema key (look other) ≡ true → ⊥)
    → AllByRecursion (λ place. look place.0 ≡ Some place.1) rows → RowsRise rows → has_double (flat_map (λ place. key_list rule schema place.1) rows) ≡ false
once rise rule schema look [] unique found h = refl
once rise rule schema look (row ∷ rows) unique found h =
    apart_lists (key_list rule schema row.1) (flat_map (λ place. key_list rule schema place.1) rows) (rising_once (key_list rule schema row.1) (rise rule schema row.1)) (once rise rule schema look rows unique found.1 h.1)
    (λ key own also.
    let there = having rule schema key (λ place. (key_cmp row.0 place.0 ≡ Less) × (look place.0 ≡ Some place.1)) rows
    (all_both (λ place. key_cmp row.0 place.0 ≡ Less) (λ place. look place.0 ≡ Some place.1) (λ place. (key_cmp row.0 place.0 ≡ Less) × (look place.0 ≡ Some place.1)) (λ place a b. (a, b)) rows h.0 found.1) also in
    unique row.0 there.0.0 key (less_apart row.0 there.0.0 there.1.0) (ap (yields_key rule schema key) found.0 ∙ own) (ap (yields_key rule schema key) there.1.1 ∙ there.2))

-- each row is found
found_itself : (rows : Rows) → RowsRise rows → AllByRecursion (λ place. row_at rows place.0 ≡ Some place.1) rows
found_itself [] h = tt
found_itself (row ∷ rows) h = (
  ap (λ b. cond b (Some row.1) (row_at rows row.0)) (sym (same_test row.0 row.0) ∙ equal_bytes row.0 row.0 refl),
  all_both (λ place. key_cmp row.0 place.0 ≡ Less) (λ place. row_at rows place.0 ≡ Some place.1) (λ place. row_at (row ∷ rows) place.0 ≡ Some place.1)
      (λ place less e. ap (λ b. cond b (Some row.1) (row_at rows place.0)) (sym (same_test place.0 row.0) ∙ less_apart row.0 place.0 less) ∙ e) rows h.0 (found_itself rows h.1),
)

pub no_double_key : KeysRise → (rule : IndexRule) (schema : Schema) (rows : Rows) → RowsRise rows → AreUniqueRows rule schema rows → has_double_key rule schema rows ≡ false
unfolding has_double_key
no_double_key rise rule schema rows h unique = once rise rule schema (row_at rows) rows unique (found_itself rows h) h

-- ---- what a commit leaves

-- a commit keeps the keys, whether it is lawful or not
pub unique_committed : (base : Records) (kept : List PastChange) (state : DatabaseState) (label : ℕ) → HasUniqueKeys base kept state → HasUniqueKeys base (kept_after state label entry.Commit kept) (applied label entry.Commit (with_next_number state))
unique_committed base kept state label unique = record {
  tables = λ id. same_defined (HasUniqueIndexes after_transactions base after_kept) (λ t p. p) (λ t p. p) (tables_after_all state.tables (open_changes_of label state.past)) state.tables (same_definitions state.tables (open_changes_of label state.past)) id
      (some_at (HasUniqueIndexes (transaction_of state) base kept) (HasUniqueIndexes after_transactions base after_kept) (table_with_id state.tables id)
      (λ t f each. all_weaker (λ rule. IsSoundIndex t rule × IsUniqueIndex (transaction_of state) base kept t rule) (λ rule. IsSoundIndex t rule × IsUniqueIndex after_transactions base after_kept t rule)
      (λ rule both. (
        both.0,
        λ is. let keys = both.1 is in (
          keys_same rule (schema_of t) t.id base after_kept (with_at label None (transaction_of state)) after_transactions (transaction-ended label committing) (keys_committed rule (schema_of t) t.id state.number (transaction_of state) base kept label keys.0),
          λ primary. own_mapped rule (schema_of t) t.id base kept (committed_own label (state.number + 1)) (commit_change label (state.number + 1)) (commit_before label (state.number + 1)) (commit_after label (state.number + 1)) (keys.1 primary),
        ),
      )) t.indexes each) (unique.tables id));
}
  where
    committing : DatabaseState
    committing = with_changes_at label every_change (λ item. record item { status = committed (state.number + 1) }) (record (with_next_number state) { tables = tables_after_all state.tables (open_changes_of label state.past) })

    after_transactions : ℕ → Option Transaction
    after_transactions = transaction_of (applied label entry.Commit (with_next_number state))

    after_kept : List PastChange
    after_kept = map (committed_own label (state.number + 1)) kept

-- the committed tables of a state in which a session is in no transaction
pub unique_outside : KeysRise → (base : Records) (dropped kept : List PastChange) (state : DatabaseState) (label : ℕ) → IsHistory base dropped kept state → IndexesSeeNoSum kept state → transaction_of state label ≡ None → HasUniqueKeys base kept state
    → AllByRecursion (λ t. (table_with_id state.tables t.id ≡ Some t) × RowsRise t.rows) state.tables → is_unique_throughout state.tables ≡ true
unfolding view
unique_outside rise base dropped kept state label h sees outside unique found =
    all_listed (λ t. list_all (λ rule. not (is_unique rule && has_double_key rule (schema_of t) t.rows)) t.indexes) state.tables
    (all_weaker (λ t. (table_with_id state.tables t.id ≡ Some t) × RowsRise t.rows) (λ t. list_all (λ rule. not (is_unique rule && has_double_key rule (schema_of t) t.rows)) t.indexes ≡ true)
    (λ t is. all_listed (λ rule. not (is_unique rule && has_double_key rule (schema_of t) t.rows)) t.indexes
    (all_both (λ rule. IsSoundIndex t rule × IsUniqueIndex (transaction_of state) base kept t rule) (λ rule. SeesNoSum rule t.id kept) (λ rule. not (is_unique rule && has_double_key rule (schema_of t) t.rows) ≡ true)
    (λ rule known plain. elim (is_unique rule) as (λ b. (b ≡ true → HasFreeKeys rule (schema_of t) t.id (transaction_of state) base kept) → not (b && has_double_key rule (schema_of t) t.rows) ≡ true) [
      | true ↦ λ keys. ap not (no_double_key rise rule (schema_of t) t.rows is.1 (rows_unique t is.0 rule plain (keys refl)))
      | false ↦ λ keys. refl
    ] (λ e. (known.1 e).0))
    t.indexes (subst (λ (o : Option Table). IfSome o (HasUniqueIndexes (transaction_of state) base kept)) is.0 (unique.tables t.id)) (seen_by kept state sees t.id t is.0))) state.tables found)
  where
    rows_unique : (t : Table) → table_with_id state.tables t.id ≡ Some t → (rule : IndexRule) → SeesNoSum rule t.id kept → HasFreeKeys rule (schema_of t) t.id (transaction_of state) base kept → AreUniqueRows rule (schema_of t) t.rows
    rows_unique t is rule plain keys one other key apart had also =
        (subst (λ (tables : List Table). AreUnique rule (schema_of t) t.id (records_of tables)) (ap (view_in state label) outside) (unique_in_view base dropped kept state h rule (schema_of t) t.id plain keys label)) one other key apart
        (ap (yields_key rule (schema_of t) key) (rows_found state.tables t.id t is one) ∙ had) (ap (yields_key rule (schema_of t) key) (rows_found state.tables t.id t is other) ∙ also)

pub committed_unique : KeysRise → (base : Records) (dropped kept : List PastChange) (state : DatabaseState) (label : ℕ) → IsHistory base dropped kept state → IndexesSeeNoSum kept state → HasUniqueKeys base kept state
    → AllByRecursion (λ t. (table_with_id (tables_after_all state.tables (open_changes_of label state.past)) t.id ≡ Some t) × RowsRise t.rows) (tables_after_all state.tables (open_changes_of label state.past))
    → is_unique_throughout (tables_after_all state.tables (open_changes_of label state.past)) ≡ true
committed_unique rise base dropped kept state label h sees unique found =
    unique_outside rise base dropped (kept_after state label entry.Commit kept) (applied label entry.Commit (with_next_number state)) label (history_committed base dropped kept label state h)
    (λ id. same_defined Unseeing (λ t p. p) (λ t p. p) (tables_after_all state.tables (open_changes_of label state.past)) state.tables (same_definitions state.tables (open_changes_of label state.past)) id
    (some_at (λ t. AllByRecursion (λ rule. SeesNoSum rule t.id kept) t.indexes) Unseeing (table_with_id state.tables id)
    (λ t is each. all_weaker (λ rule. SeesNoSum rule t.id kept) (λ rule. SeesNoSum rule t.id after_kept)
    (λ rule plain. all_map (λ item. changed_table item.change ≡ t.id → adds_to_index rule item.change ≡ false) (committed_own label (state.number + 1)) kept
    (all_weaker (λ item. changed_table item.change ≡ t.id → adds_to_index rule item.change ≡ false)
    (λ item. changed_table (committed_own label (state.number + 1) item).change ≡ t.id → adds_to_index rule (committed_own label (state.number + 1) item).change ≡ false)
    (λ item unseen own. ap (adds_to_index rule) (commit_change label (state.number + 1) item) ∙ unseen (sym (ap changed_table (commit_change label (state.number + 1) item)) ∙ own)) kept plain))
    t.indexes each) (sees id)))
    (ap (λ (ts : ℕ → Option Transaction). ts label) (transaction-ended label committing) ∙ ap (λ b. cond b None (transaction_of state label)) (self_equal label))
    (unique_committed base kept state label unique) found
  where
    committing : DatabaseState
    committing = with_changes_at label every_change (λ item. record item { status = committed (state.number + 1) }) (record (with_next_number state) { tables = tables_after_all state.tables (open_changes_of label state.past) })

    after_kept : List PastChange
    after_kept = map (committed_own label (state.number + 1)) kept

    Unseeing : Table → Type 0
    Unseeing t = AllByRecursion (λ rule. SeesNoSum rule t.id after_kept) t.indexes
