-- Lawful entries keep all indexes apart from sums.
use Rattle.std.proofs.Common.{◌≡◌, ℕ, ◌+◌, Bool, true, false, not, ◌||◌, List, [], ◌∷◌, ◌++◌, Option, Some, None, refl, sym, ap, ◌∙◌}
use Rattle.std.specs.Prelude.{◌==◌, if◌then◌else◌, is_none, is_some, map, IfSome}
use Rattle.std.specs.List.{AllByRecursion, list_any}
use Rattle.std.proofs.lemmas.Bool.{eqb-true, false_from_ne_true}
use Rattle.common_lemmas.proofs.Booleans.{and_left, and_right, impossible}
use Rattle.common_lemmas.proofs.Lists.{all_append, all_each, all_filter, all_weaker}
use Rattle.column_set.specs.declared.changes.Change.{Change}
use Rattle.column_set.specs.declared.changes.Change.TheVariants.{Put, Drop, Hold, Add}
use Rattle.column_set.specs.declared.columns.Column.{Column}
use Rattle.column_set.specs.RecordValues.{column_of_id, tagged_if_long}
use Rattle.index_derive.specs.declared.rules.IndexRule.{IndexRule}
use Rattle.index_derive.specs.declared.rules.Schema.{Schema}
use Rattle.index_derive.specs.declared.log.Entry.{Entry}
use Rattle.index_derive.specs.declared.log.EntryKind.{EntryKind}
use Rattle.index_derive.specs.declared.log.EntryKind.TheVariants as entry
use Rattle.index_derive.specs.declared.schema_calls.SchemaStep.{SchemaStep}
use Rattle.index_derive.specs.declared.schema_calls.SchemaStep.TheVariants as step
use Rattle.index_derive.specs.Entries.{is_escrow_column}
use Rattle.database_state.specs.Table.{Table, schema_of, table_with_id}
use Rattle.database_state.specs.Changes.{is_sum, without_copied}
use Rattle.column_set.specs.ChangedRecords.{changed_table}
use Rattle.database_state.specs.SchemaChanges.{has_column, new_table, rule_columns, schema_refusal, tables_after_step, with_column, with_index, without_column, without_index}
use Rattle.database_state.specs.State.{DatabaseState, PastChange, is_open_change_of, is_undone, levels, transaction_of}
use Rattle.database_state.specs.Conflicts.{yields_key}
use Rattle.database_state.specs.Step.{applied, every_change, is_at_level, state_after}
use Rattle.database_state.specs.Lawful.{has_number, is_lawful, is_lawful_at, is_lawful_change, is_lawful_kind}
use Rattle.database_state.proofs.Columns.{column_of_id-columns_with}
use Rattle.laws_versions.specs.Records.{Records, after_item, records_after_items, records_of}
use Rattle.laws_versions.specs.History.{IsHistory, IsPlaced, LevelsRise}
use Rattle.laws_versions.specs.KeptSteps.{base_after, committed_own, is_own_open, kept_after, lowered_own, new_change, undone_where, with_next_number}
use Rattle.laws_versions.specs.Readers.{is_standing}
use Rattle.laws_versions.proofs.HistoryLemmas.Befores.{at}
use Rattle.laws_versions.proofs.HistoryLemmas.Ending.{commit_before, commit_change, commit_live, lower_before, lower_change, lower_status}
use Rattle.laws_versions.proofs.HistoryLemmas.Entries.{at_innermost, history_later}
use Rattle.laws_versions.proofs.HistoryLemmas.Keeping.{goes_apart, open_live, undone_change}
use Rattle.laws_versions.proofs.HistoryLemmas.Lists.{all_both}
use Rattle.laws_versions.proofs.HistoryLemmas.SeenRecords.{newest_records}
use Rattle.laws_versions.specs.KeySums.{HasEscrowSums, HasKeyBefores, HasSameKeys, IndexesSeeNoSum, IsApartFromSums, IsPlainIndex, SeesNoSum, adds_to_index, is_plain_column, names_column}
use Rattle.laws_versions.proofs.KeyLemmas.IndexNumbers.{none_of}
use Rattle.laws_versions.proofs.KeyLemmas.KeysOfEntries.{changes_records}
use Rattle.laws_versions.proofs.KeyLemmas.SchemaKeys.{at_found, at_table, found_has, other_column, unused_by, with_last, without_table}
use Rattle.laws_versions.proofs.KeyLemmas.SumBefores.{key_befores-append, key_befores-map, key_befores-undo, sees_mapped}
use Rattle.laws_versions.proofs.KeyLemmas.UniqueKept.{id_of, same_defined, same_tables, some_at}

-- ---- plain columns

abbrev is_plain : Option Column → Bool
is_plain found = elim found [ Some column ↦ not column.escrow | None ↦ false ]

plain_there : (found : Option Column) → is_plain found ≡ true → is_some found ≡ true
plain_there None e = e
plain_there (Some column) e = refl

abbrev ArePlain : Table → Type 0
ArePlain table = AllByRecursion (IsPlainIndex table) table.indexes

-- the columns of each index stay as they are
plain_kept : (one other : Table) (rule : IndexRule) → AllByRecursion (λ id. column_of_id other.columns id ≡ column_of_id one.columns id) (rule_columns rule) → IsPlainIndex one rule → IsPlainIndex other rule
plain_kept one other rule same h =
    all_both (λ id. column_of_id other.columns id ≡ column_of_id one.columns id) (λ id. is_plain_column one id ≡ true) (λ id. is_plain_column other id ≡ true) (λ id e p. ap is_plain e ∙ p) (rule_columns rule) same h

added_column : (column : Column) (table : Table) → ArePlain table → ArePlain (with_column column table)
added_column column table h = all_weaker (IsPlainIndex table) (IsPlainIndex (with_column column table))
    (λ rule plain. plain_kept table (with_column column table) rule
    (all_weaker (λ id. is_plain_column table id ≡ true) (λ id. column_of_id (with_column column table).columns id ≡ column_of_id table.columns id)
    (λ id p. column_of_id-columns_with column id table.columns (plain_there (column_of_id table.columns id) p)) (rule_columns rule) plain) plain) table.indexes h

removed_column : (column : ℕ) (table : Table) → AllByRecursion (λ rule. AllByRecursion (λ id. (id == column) ≡ false) (rule_columns rule)) table.indexes → ArePlain table → ArePlain (without_column column table)
removed_column column table unused h = all_both (IsPlainIndex table) (λ rule. AllByRecursion (λ id. (id == column) ≡ false) (rule_columns rule)) (IsPlainIndex (without_column column table))
    (λ rule plain apart. plain_kept table (without_column column table) rule
    (all_weaker (λ id. (id == column) ≡ false) (λ id. column_of_id (without_column column table).columns id ≡ column_of_id table.columns id) (other_column column table) (rule_columns rule) apart) plain) table.indexes h unused

-- a column that is there and is no escrow column
plain_of : (table : Table) (id : ℕ) → not (has_column table id) ≡ false → is_escrow_column (schema_of table) id ≡ false → is_plain_column table id ≡ true
plain_of table id has plain = by (column_of_id table.columns id) (found_has table.columns id ∙ is (has_column table id) has) plain
  where
    is : (b : Bool) → not b ≡ false → b ≡ true
    is true e = refl
    is false e = impossible (sym e)

    by : (found : Option Column) → is_some found ≡ true → elim found [ Some column ↦ column.escrow | None ↦ false ] ≡ false → is_plain found ≡ true
    by None e f = e
    by (Some column) e f = ap not f

pub step_keeps_plain : (state : DatabaseState) (label : ℕ) (made : SchemaStep) → is_none (schema_refusal state label made) ≡ true → ((id : ℕ) → IfSome (table_with_id state.tables id) ArePlain)
    → (id : ℕ) → IfSome (table_with_id (tables_after_step state.tables made) id) ArePlain
step_keeps_plain state label (step.CreateTable table name) e h id = with_last ArePlain (new_table table.0 name) tt state.tables id (h id)
step_keeps_plain state label (step.DeleteTable table) e h id = without_table ArePlain table.0 state.tables id (h id)
step_keeps_plain state label (step.AddColumn table column) e h id =
    at_table ArePlain table.0 (with_column (tagged_if_long column)) (λ t. refl) state.tables (λ t found is. added_column (tagged_if_long column) t is) h id
step_keeps_plain state label (step.DeleteColumn table column) e h id =
    at_table ArePlain table.0 (without_column column.0) (λ t. refl) state.tables
    (λ t found is. removed_column column.0 t (unused_by column t.indexes (at_found state label (step.DeleteColumn table column) t e found).1.0) is) h id
step_keeps_plain state label (step.CreateIndex table rule) e h id =
    at_table ArePlain table.0 (with_index rule) (λ t. refl) state.tables
    (λ t found is. let refused = at_found state label (step.CreateIndex table rule) t e found in
    all_append (IsPlainIndex (with_index rule t)) t.indexes (rule ∷ []) is (
      all_both (λ id. not (has_column t id) ≡ false) (λ id. is_escrow_column (schema_of t) id ≡ false) (λ id. is_plain_column t id ≡ true) (plain_of t) (rule_columns rule)
          (none_of (λ id. not (has_column t id)) (rule_columns rule) refused.1.1.1.1.0) (none_of (is_escrow_column (schema_of t)) (rule_columns rule) refused.1.1.1.1.1.0),
      tt,
    )) h id
step_keeps_plain state label (step.DeleteIndex table index) e h id =
    at_table ArePlain table.0 (without_index index.0) (λ t. refl) state.tables
    (λ t found is. all_filter (IsPlainIndex t) (λ r. not (r.id.0 == index.0)) t.indexes is) h id

-- an index of plain columns names no escrow column
unnamed : (table : Table) (rule : IndexRule) (column : ℕ) → IsPlainIndex table rule → is_escrow_column (schema_of table) column ≡ true → names_column rule column ≡ false
unnamed table rule column plain escrow = false_from_ne_true (names_column rule column) (λ named. among (rule_columns rule) plain named)
  where
    both : (found : Option Column) → is_plain found ≡ true → elim found [ Some c ↦ c.escrow | None ↦ false ] ≡ true → ⊥
    both None p e = impossible p
    both (Some c) p e = impossible (sym (ap not e) ∙ p)

    among : (ids : List ℕ) → AllByRecursion (λ id. is_plain_column table id ≡ true) ids → list_any (λ id. id == column) ids ≡ true → ⊥
    among [] p n = impossible n
    among (id ∷ ids) p n = elim (id == column) as (λ b. (id == column) ≡ b → (b || list_any (λ i. i == column) ids) ≡ true → ⊥) [
      | true ↦ λ e g. both (column_of_id table.columns column) (ap (is_plain_column table) (sym (eqb-true id column e)) ∙ p.0) escrow
      | false ↦ λ e g. among ids p.1 g
    ] refl n

-- ---- entries that change no record

-- what is known of the kept changes for an index
abbrev Known : IndexRule → Schema → ℕ → Records → List PastChange → Type 0
Known rule schema table base kept = SeesNoSum rule table kept × HasKeyBefores rule schema table base kept

known_undone : (rule : IndexRule) (schema : Schema) (table : ℕ) (base : Records) (dropped kept : List PastChange) (state : DatabaseState) → IsHistory base dropped kept state → (label : ℕ) (test : PastChange → Bool)
    → ((p q : PastChange) → is_own_open label test p ≡ true → is_open_change_of label q ≡ true → IsPlaced state.number state.tables (transaction_of state) q → LevelsRise p q → test q ≡ true)
    → Known rule schema table base kept → Known rule schema table base (map (undone_where (is_own_open label test)) kept)
known_undone rule schema table base dropped kept state h label test next known = (
  sees_mapped rule table (undone_where (is_own_open label test)) (undone_change (is_own_open label test)) kept known.0,
  key_befores-undo rule schema table (is_own_open label test) (λ item e. open_live item.status (and_left _ _ (and_left _ _ e))) kept base known.0
      (goes_apart state.number state.tables (transaction_of state) base kept label test (λ item. Unit {0}) (all_each (λ item. Unit {0}) (λ item. tt) kept) (λ p q e own placed each rise less. next p q e own placed rise) h.keeps) known.1,
)

known_by_kind : (rule : IndexRule) (schema : Schema) (table : ℕ) (base : Records) (dropped kept : List PastChange) (state : DatabaseState) → IsHistory base dropped kept state → (label : ℕ) (kind : EntryKind) → changes_records kind ≡ false
    → Known rule schema table base kept → Known rule schema table base (kept_after state label kind kept)
known_by_kind rule schema table base dropped kept state h label entry.Enter plain known = known
known_by_kind rule schema table base dropped kept state h label entry.Leave plain known = known_undone rule schema table base dropped kept state h label every_change (λ p q e own placed rise. refl) known
known_by_kind rule schema table base dropped kept state h label (entry.Open opened) plain known = known
known_by_kind rule schema table base dropped kept state h label (entry.Shut opened) plain known = known
known_by_kind rule schema table base dropped kept state h label entry.Begin plain known = known
known_by_kind rule schema table base dropped kept state h label entry.Save plain known = known
known_by_kind rule schema table base dropped kept state h label (entry.Change change) plain known = impossible (sym plain)
known_by_kind rule schema table base dropped kept state h label entry.Release plain known = (
  sees_mapped rule table (lowered_own label (levels state label)) (lower_change label (levels state label)) kept known.0,
  key_befores-map rule schema table (lowered_own label (levels state label)) (lower_change label (levels state label)) (lower_before label (levels state label))
      (λ item. ap (λ s. not (is_undone s)) (lower_status label (levels state label) item)) kept base known.1,
)
known_by_kind rule schema table base dropped kept state h label entry.Undo plain known =
    known_undone rule schema table base dropped kept state h label (is_at_level (levels state label)) (at_innermost label state) known
known_by_kind rule schema table base dropped kept state h label entry.UndoAll plain known = known_undone rule schema table base dropped kept state h label every_change (λ p q e own placed rise. refl) known
known_by_kind rule schema table base dropped kept state h label entry.Commit plain known = (
  sees_mapped rule table (committed_own label (state.number + 1)) (commit_change label (state.number + 1)) kept known.0,
  key_befores-map rule schema table (committed_own label (state.number + 1)) (commit_change label (state.number + 1)) (commit_before label (state.number + 1)) (commit_live label (state.number + 1)) kept base known.1,
)
known_by_kind rule schema table base dropped kept state h label (entry.Schema made) plain known = impossible (sym plain)

sums_by_kind : (base : Records) (dropped kept : List PastChange) (state : DatabaseState) (label : ℕ) (kind : EntryKind) → changes_records kind ≡ false → IsHistory base dropped kept state
    → HasEscrowSums base kept state → HasEscrowSums base (kept_after state label kind kept) (applied label kind (with_next_number state))
sums_by_kind base dropped kept state label kind plain h sums = record {
  tables = λ id. same_defined (λ t. AllByRecursion (IsApartFromSums base (kept_after state label kind kept) t) t.indexes) (λ t p. p) (λ t p. p) (applied label kind (with_next_number state)).tables state.tables (same_tables state label kind plain) id
      (some_at (λ t. AllByRecursion (IsApartFromSums base kept t) t.indexes) (λ t. AllByRecursion (IsApartFromSums base (kept_after state label kind kept) t) t.indexes) (table_with_id state.tables id)
      (λ t found each. all_weaker (IsApartFromSums base kept t) (IsApartFromSums base (kept_after state label kind kept) t)
      (λ rule apart. let known = known_by_kind rule (schema_of t) t.id base dropped kept state h label kind plain (apart.1, apart.2) in (apart.0, known.0, known.1)) t.indexes each) (sums.tables id));
}

-- ---- a change

-- a lawful sum is one of a column that no index names
pub unseen_new : (state : DatabaseState) (label : ℕ) (change : Change) → is_lawful_at state label (table_with_id state.tables (changed_table change)) change ≡ true → (table : Table) → table_with_id state.tables table.id ≡ Some table
    → (rule : IndexRule) → IsPlainIndex table rule → changed_table (without_copied change) ≡ table.id → adds_to_index rule (without_copied change) ≡ false
unseen_new state label (Put id bookmark copied values) lawful table found rule plain own = refl
unseen_new state label (Drop id bookmark) lawful table found rule plain own = refl
unseen_new state label (Hold id bookmark) lawful table found rule plain own = refl
unseen_new state label (Add id bookmark column amount) lawful table found rule plain own =
    unnamed table rule column.0 plain
    (and_right _ _ (sym (ap (λ o. is_lawful_at state label o (Add id bookmark column amount)) (ap (table_with_id state.tables) own ∙ found)) ∙ lawful))

new_before : (rule : IndexRule) (schema : Schema) (base : Records) (dropped kept : List PastChange) (state : DatabaseState) → IsHistory base dropped kept state → (label : ℕ) (change : Change) → is_sum (without_copied change) ≡ true
    → HasSameKeys rule schema (new_change label change (with_next_number state)).before (at (records_after_items is_standing base kept) (without_copied change))
new_before rule schema base dropped kept state h label (Put id bookmark copied values) sum key = impossible sum
new_before rule schema base dropped kept state h label (Drop id bookmark) sum key = impossible sum
new_before rule schema base dropped kept state h label (Hold id bookmark) sum key = impossible sum
new_before rule schema base dropped kept state h label (Add id bookmark column amount) sum key =
    ap (λ (r : Records). yields_key rule schema key (r id.0 bookmark)) (newest_records base dropped kept (with_next_number state) (history_later base dropped kept state h))

sums_changed : (base : Records) (dropped kept : List PastChange) (state : DatabaseState) (label : ℕ) (change : Change) → IsHistory base dropped kept state → is_lawful_change state label change ≡ true
    → HasEscrowSums base kept state → HasEscrowSums base (kept_after state label (entry.Change change) kept) (applied label (entry.Change change) (with_next_number state))
sums_changed base dropped kept state label change h lawful sums = record {
  tables = λ id. some_at (λ t. AllByRecursion (IsApartFromSums base kept t) t.indexes) (λ t. AllByRecursion (IsApartFromSums base (kept ++ new ∷ []) t) t.indexes) (table_with_id state.tables id)
      (λ t found each. all_weaker (IsApartFromSums base kept t) (IsApartFromSums base (kept ++ new ∷ []) t)
      (λ rule apart. (
        apart.0,
        all_append (λ item. changed_table item.change ≡ t.id → adds_to_index rule item.change ≡ false) kept (new ∷ []) apart.1
            (unseen_new state label change (and_right _ _ lawful) t (ap (table_with_id state.tables) (id_of state.tables id t found) ∙ found) rule apart.0, tt),
        key_befores-append rule (schema_of t) t.id kept base new apart.2 (new_before rule (schema_of t) base dropped kept state h label change),
      )) t.indexes each) (sums.tables id);
}
  where
    new : PastChange
    new = new_change label change (with_next_number state)

-- ---- a schema step

sums_defined : (base : Records) (kept : List PastChange) (state : DatabaseState) (label : ℕ) (made : SchemaStep) → is_none (schema_refusal state label made) ≡ true
    → HasEscrowSums base kept state → HasEscrowSums (base_after state (entry.Schema made) base) (kept_after state label (entry.Schema made) kept) (applied label (entry.Schema made) (with_next_number state))
sums_defined base kept state label made free sums = record {
  tables = λ id. some_at ArePlain (λ t. AllByRecursion (IsApartFromSums (records_of (tables_after_step state.tables made)) [] t) t.indexes) (table_with_id (tables_after_step state.tables made) id)
      (λ t found each. all_weaker (IsPlainIndex t) (IsApartFromSums (records_of (tables_after_step state.tables made)) [] t) (λ rule plain. (plain, tt, tt)) t.indexes each)
      (step_keeps_plain state label made free
      (λ at_id. some_at (λ t. AllByRecursion (IsApartFromSums base kept t) t.indexes) ArePlain (table_with_id state.tables at_id) (λ t found each. all_weaker (IsApartFromSums base kept t) (IsPlainIndex t) (λ rule apart. apart.0) t.indexes each) (sums.tables at_id)) id);
}

-- ---- any entry

by_kind : (base : Records) (dropped kept : List PastChange) (state : DatabaseState) (label : ℕ) (kind : EntryKind) → IsHistory base dropped kept state → is_lawful_kind state label kind ≡ true → HasEscrowSums base kept state
    → HasEscrowSums (base_after state kind base) (kept_after state label kind kept) (applied label kind (with_next_number state))
by_kind base dropped kept state label entry.Enter h e sums = sums_by_kind base dropped kept state label entry.Enter refl h sums
by_kind base dropped kept state label entry.Leave h e sums = sums_by_kind base dropped kept state label entry.Leave refl h sums
by_kind base dropped kept state label (entry.Open table) h e sums = sums_by_kind base dropped kept state label (entry.Open table) refl h sums
by_kind base dropped kept state label (entry.Shut table) h e sums = sums_by_kind base dropped kept state label (entry.Shut table) refl h sums
by_kind base dropped kept state label entry.Begin h e sums = sums_by_kind base dropped kept state label entry.Begin refl h sums
by_kind base dropped kept state label entry.Save h e sums = sums_by_kind base dropped kept state label entry.Save refl h sums
by_kind base dropped kept state label (entry.Change change) h e sums = sums_changed base dropped kept state label change h e sums
by_kind base dropped kept state label entry.Release h e sums = sums_by_kind base dropped kept state label entry.Release refl h sums
by_kind base dropped kept state label entry.Undo h e sums = sums_by_kind base dropped kept state label entry.Undo refl h sums
by_kind base dropped kept state label entry.UndoAll h e sums = sums_by_kind base dropped kept state label entry.UndoAll refl h sums
by_kind base dropped kept state label entry.Commit h e sums = sums_by_kind base dropped kept state label entry.Commit refl h sums
by_kind base dropped kept state label (entry.Schema made) h e sums = sums_defined base kept state label made (and_right _ _ (and_left _ _ e)) sums

pub sums_kept : (base : Records) (dropped kept : List PastChange) (state : DatabaseState) (made : Entry) → IsHistory base dropped kept state → is_lawful state made ≡ true → HasEscrowSums base kept state
    → HasEscrowSums (base_after state made.kind base) (kept_after state made.session.0 made.kind kept) (state_after state made)
unfolding is_lawful state_after
sums_kept base dropped kept state made h e sums = by_kind base dropped kept state made.session.0 made.kind h (and_right (has_number state.number made.kind) _ e) sums

-- ---- where it begins, and a clean

pub sums_begin : (state : DatabaseState) → ((id : ℕ) → IfSome (table_with_id state.tables id) (λ table. AllByRecursion (IsPlainIndex table) table.indexes)) → HasEscrowSums (records_of state.tables) [] state
sums_begin state h = record {
  tables = λ id. some_at ArePlain (λ t. AllByRecursion (IsApartFromSums (records_of state.tables) [] t) t.indexes) (table_with_id state.tables id)
      (λ t found each. all_weaker (IsPlainIndex t) (IsApartFromSums (records_of state.tables) [] t) (λ rule plain. (plain, tt, tt)) t.indexes each) (h id);
}

pub sums_cleaned : (base : Records) (item : PastChange) (kept : List PastChange) (state : DatabaseState) → HasEscrowSums base (item ∷ kept) state → HasEscrowSums (if is_standing item then after_item base item else base) kept state
sums_cleaned base item kept state sums = record {
  tables = λ id. some_at (λ t. AllByRecursion (IsApartFromSums base (item ∷ kept) t) t.indexes) (λ t. AllByRecursion (IsApartFromSums (if is_standing item then after_item base item else base) kept t) t.indexes) (table_with_id state.tables id)
      (λ t found each. all_weaker (IsApartFromSums base (item ∷ kept) t) (IsApartFromSums (if is_standing item then after_item base item else base) kept t) (λ rule apart. (apart.0, apart.1.1, apart.2.1)) t.indexes each) (sums.tables id);
}

-- ---- what no index sees

pub unseen_now : (base : Records) (kept : List PastChange) (state : DatabaseState) → HasEscrowSums base kept state → IndexesSeeNoSum kept state
unseen_now base kept state sums id = some_at (λ t. AllByRecursion (IsApartFromSums base kept t) t.indexes) (λ t. AllByRecursion (λ rule. SeesNoSum rule t.id kept) t.indexes) (table_with_id state.tables id)
    (λ t found each. all_weaker (IsApartFromSums base kept t) (λ rule. SeesNoSum rule t.id kept) (λ rule apart. apart.1) t.indexes each) (sums.tables id)

unseen_by_kind : (base : Records) (dropped kept : List PastChange) (state : DatabaseState) (label : ℕ) (kind : EntryKind) → changes_records kind ≡ false → IsHistory base dropped kept state → HasEscrowSums base kept state
    → IndexesSeeNoSum (kept_after state label kind kept) state
unseen_by_kind base dropped kept state label kind plain h sums id = some_at (λ t. AllByRecursion (IsApartFromSums base kept t) t.indexes) (λ t. AllByRecursion (λ rule. SeesNoSum rule t.id (kept_after state label kind kept)) t.indexes) (table_with_id state.tables id)
    (λ t found each. all_weaker (IsApartFromSums base kept t) (λ rule. SeesNoSum rule t.id (kept_after state label kind kept))
    (λ rule apart. (known_by_kind rule (schema_of t) t.id base dropped kept state h label kind plain (apart.1, apart.2)).0) t.indexes each) (sums.tables id)

next_by_kind : (base : Records) (dropped kept : List PastChange) (state : DatabaseState) (label : ℕ) (kind : EntryKind) → IsHistory base dropped kept state → is_lawful_kind state label kind ≡ true → HasEscrowSums base kept state
    → IndexesSeeNoSum (kept_after state label kind kept) state
next_by_kind base dropped kept state label entry.Enter h e sums = unseen_by_kind base dropped kept state label entry.Enter refl h sums
next_by_kind base dropped kept state label entry.Leave h e sums = unseen_by_kind base dropped kept state label entry.Leave refl h sums
next_by_kind base dropped kept state label (entry.Open table) h e sums = unseen_by_kind base dropped kept state label (entry.Open table) refl h sums
next_by_kind base dropped kept state label (entry.Shut table) h e sums = unseen_by_kind base dropped kept state label (entry.Shut table) refl h sums
next_by_kind base dropped kept state label entry.Begin h e sums = unseen_by_kind base dropped kept state label entry.Begin refl h sums
next_by_kind base dropped kept state label entry.Save h e sums = unseen_by_kind base dropped kept state label entry.Save refl h sums
next_by_kind base dropped kept state label (entry.Change change) h e sums = unseen_now base (kept_after state label (entry.Change change) kept) state (record { tables = (sums_changed base dropped kept state label change h e sums).tables })
next_by_kind base dropped kept state label entry.Release h e sums = unseen_by_kind base dropped kept state label entry.Release refl h sums
next_by_kind base dropped kept state label entry.Undo h e sums = unseen_by_kind base dropped kept state label entry.Undo refl h sums
next_by_kind base dropped kept state label entry.UndoAll h e sums = unseen_by_kind base dropped kept state label entry.UndoAll refl h sums
next_by_kind base dropped kept state label entry.Commit h e sums = unseen_by_kind base dropped kept state label entry.Commit refl h sums
next_by_kind base dropped kept state label (entry.Schema made) h e sums = λ id. nothing (table_with_id state.tables id)
  where
    nothing : (found : Option Table) → IfSome found (λ t. AllByRecursion (λ rule. SeesNoSum rule t.id []) t.indexes)
    nothing None = tt
    nothing (Some t) = all_each (λ rule. SeesNoSum rule t.id []) (λ rule. tt) t.indexes

pub unseen_next : (base : Records) (dropped kept : List PastChange) (state : DatabaseState) (made : Entry) → IsHistory base dropped kept state → is_lawful state made ≡ true → HasEscrowSums base kept state
    → IndexesSeeNoSum (kept_after state made.session.0 made.kind kept) state
unfolding is_lawful
unseen_next base dropped kept state made h e sums = next_by_kind base dropped kept state made.session.0 made.kind h (and_right (has_number state.number made.kind) _ e) sums

pub key_befores_at : (base : Records) (kept : List PastChange) (state : DatabaseState) → HasEscrowSums base kept state → (id : ℕ)
    → IfSome (table_with_id state.tables id) (λ table. AllByRecursion (λ rule. HasKeyBefores rule (schema_of table) table.id base kept) table.indexes)
key_befores_at base kept state sums id = some_at (λ t. AllByRecursion (IsApartFromSums base kept t) t.indexes) (λ t. AllByRecursion (λ rule. HasKeyBefores rule (schema_of t) t.id base kept) t.indexes) (table_with_id state.tables id)
    (λ t found each. all_weaker (IsApartFromSums base kept t) (λ rule. HasKeyBefores rule (schema_of t) t.id base kept) (λ rule apart. apart.2) t.indexes each) (sums.tables id)
