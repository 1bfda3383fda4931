-- Which log entries may come next.
use Rattle.std.specs.Prelude.{ℕ, ◌+◌, ◌^◌, ◌==◌, Bool, true, false, not, ◌&&◌, ◌||◌, nat_lt, nat_le, length, List, [], Option, Some, None, is_some, is_none, unwrap_or, filter, bytes_eq}
use Rattle.std.specs.List.{list_any, list_all}
use Rattle.jet_base.specs.ColumnType.{big_endian}
use Rattle.column_set.specs.declared.columns.Column.{Column}
use Rattle.column_set.specs.declared.changes.Change.{Change}
use Rattle.column_set.specs.declared.changes.Change.TheVariants.{Put, Drop, Hold, Add}
use Rattle.column_set.specs.RecordValues.{RecordFields, record_size, record_fits, is_missing_a_value}
use Rattle.index_derive.specs.declared.rules.Schema.{Schema}
use Rattle.index_derive.specs.declared.rules.IndexRule.{IndexRule}
use Rattle.index_derive.specs.declared.log.Entry.{Entry}
use Rattle.index_derive.specs.declared.log.EntryKind.{EntryKind}
use Rattle.index_derive.specs.declared.log.EntryKind.TheVariants as entry
use Rattle.index_derive.specs.declared.schema_calls.SchemaStep.{SchemaStep}
use Rattle.index_derive.specs.declared.schema_calls.SchemaStep.TheVariants as step
use Rattle.index_derive.specs.Entries.{primary_key, has_double_key, is_unique, is_escrow_column}
use Rattle.database_state.specs.Table.{Table, Rows, row_at, rows_of, schema_of, table_with_id}
use Rattle.index_derive.specs.Schemas.{primary_rule}
use Rattle.database_state.specs.Changes.{escrow_bytes}
use Rattle.column_set.specs.ChangedRecords.{changed_table}
use Rattle.database_state.specs.State.{DatabaseState, LiveSession, live_session, levels}
use Rattle.database_state.specs.View.{view}
use Rattle.database_state.specs.Conflicts.{has_write_conflict, has_key_conflict}
use Rattle.database_state.specs.Puts.{null_refusals, new_keys, is_taken}
use Rattle.column_set.specs.Refusals.{first_refusal}
use Rattle.database_state.specs.SchemaChanges.{new_table, schema_refusal, next_column_id, next_index_id, greatest_order}
use Rattle.database_state.specs.Step.{state_after}

-- ---- the number of the log

abbrev pub log_limit : ℕ
log_limit = 2 ^ 34

-- Entries that end something may always come; a change may be the one after the last that begins something.
abbrev pub has_number : ℕ → EntryKind → Bool
has_number number entry.Leave = true
has_number number (entry.Shut table) = true
has_number number entry.Release = true
has_number number entry.Undo = true
has_number number entry.UndoAll = true
has_number number entry.Commit = true
has_number number (entry.Change change) = nat_le number log_limit
has_number number _ = nat_lt number log_limit

-- ---- sessions and levels

abbrev pub is_live : DatabaseState → ℕ → Bool
is_live state session = is_some (live_session state session)

abbrev pub has_open : Option LiveSession → ℕ → Bool
has_open None table = false
has_open (Some session) table = list_any (λ id. id == table) session.open_tables

-- no two records of the committed tables share a key of a unique index
abbrev pub is_unique_throughout : List Table → Bool
is_unique_throughout tables = list_all (λ t. list_all (λ rule. not (is_unique rule && has_double_key rule (schema_of t) t.rows)) t.indexes) tables

-- ---- changes

-- For a primary index the bookmark is the record's key there. A hidden key is one of the view, or the number of the entry
-- itself in 8 bytes big-endian.
abbrev pub is_bookmark_of : ℕ → Schema → Rows → Option IndexRule → List ℕ → RecordFields → Bool
is_bookmark_of number schema rows None bookmark values = is_some (row_at rows bookmark) || bytes_eq bookmark (big_endian 8 number)
is_bookmark_of number schema rows (Some rule) bookmark values = bytes_eq bookmark (primary_key rule schema values)

-- a replace keeps the escrow values of the view, and an insert begins them at 0
abbrev pub keeps_escrow : List Column → Option RecordFields → RecordFields → Bool
keeps_escrow columns seen values = list_all (λ c. not c.escrow || bytes_eq (escrow_bytes values c.id.0) (escrow_bytes (unwrap_or seen []) c.id.0)) columns

-- no index refuses the record for a NULL or for a cut key
abbrev pub is_indexable : Schema → RecordFields → Bool
is_indexable schema values = is_none (first_refusal (null_refusals schema values))

-- Of a unique index no key that is new to the record is a concurrent change's, or another record's of the view. The keys
-- that the record of the view has already are not asked.
abbrev pub has_free_keys : DatabaseState → ℕ → ℕ → Schema → Rows → List ℕ → RecordFields → Bool
has_free_keys state session table schema rows bookmark values =
    list_all (λ rule. list_all (λ key. not (has_key_conflict state session table schema rule key || is_taken schema rows rule (Some bookmark) key))
    (new_keys rule schema (row_at rows bookmark) values))
    (filter is_unique schema.indexes)

abbrev pub is_copied_in : Rows → Option (List ℕ) → Bool
is_copied_in rows None = true
is_copied_in rows (Some bookmark) = is_some (row_at rows bookmark)

abbrev pub is_lawful_put : DatabaseState → ℕ → Table → Rows → List ℕ → Option (List ℕ) → RecordFields → Bool
is_lawful_put state session table rows bookmark copied values =
    record_fits table.columns values
    && not (is_missing_a_value table.columns values)
    && nat_le (record_size values) 1700
    && is_indexable (schema_of table) values
    && has_free_keys state session table.id (schema_of table) rows bookmark values
    && is_bookmark_of (state.number + 1) (schema_of table) rows (primary_rule (schema_of table)) bookmark values
    && keeps_escrow table.columns (row_at rows bookmark) values
    && is_copied_in rows copied

abbrev pub is_lawful_in : DatabaseState → ℕ → Table → Rows → Change → Bool
is_lawful_in state session table rows (Put id bookmark copied values) = is_lawful_put state session table rows bookmark copied values
is_lawful_in state session table rows (Drop id bookmark) = is_some (row_at rows bookmark)
is_lawful_in state session table rows (Hold id bookmark) = is_some (row_at rows bookmark)
is_lawful_in state session table rows (Add id bookmark column amount) = is_some (row_at rows bookmark) && is_escrow_column (schema_of table) column.0

abbrev pub is_lawful_at : DatabaseState → ℕ → Option Table → Change → Bool
is_lawful_at state session None change = false
is_lawful_at state session (Some table) change = is_lawful_in state session table (rows_of (table_with_id (view state session) table.id)) change

-- A change stands in a transaction, names a table, and meets no write conflict.
abbrev pub is_lawful_change : DatabaseState → ℕ → Change → Bool
is_lawful_change state session change =
    nat_lt 0 (levels state session)
    && not (has_write_conflict state session change)
    && is_lawful_at state session (table_with_id state.tables (changed_table change)) change

-- ---- schema steps

abbrev pub is_name : List ℕ → Bool
is_name name = nat_le 1 (length name) && nat_le (length name) 64

-- it carries the next free numbers
abbrev pub has_next_numbers : DatabaseState → SchemaStep → Bool
has_next_numbers state (step.CreateTable table name) = (table.0 == (state.greatest_table + 1)) && is_name name
has_next_numbers state (step.DeleteTable table) = true
has_next_numbers state (step.AddColumn table column) =
    let t = unwrap_or (table_with_id state.tables table.0) (new_table 0 []) in
    (column.id.0 == next_column_id t.greatest column.kind column.tagged) && is_name column.name
has_next_numbers state (step.DeleteColumn table column) = true
has_next_numbers state (step.CreateIndex table rule) =
    let t = unwrap_or (table_with_id state.tables table.0) (new_table 0 []) in
    (rule.id.0 == next_index_id t.indexes) && (rule.order == (greatest_order t.indexes + 1)) && is_name rule.name
has_next_numbers state (step.DeleteIndex table index) = true

-- ---- entries

abbrev pub is_lawful_kind : DatabaseState → ℕ → EntryKind → Bool
is_lawful_kind state session entry.Enter = not (is_live state session) && nat_lt (length state.sessions) 64
is_lawful_kind state session entry.Leave = is_live state session
is_lawful_kind state session (entry.Open table) = is_live state session && is_some (table_with_id state.tables table.0)
is_lawful_kind state session (entry.Shut table) = has_open (live_session state session) table.0
is_lawful_kind state session entry.Begin = is_live state session && (levels state session == 0)
is_lawful_kind state session entry.Save = nat_le 1 (levels state session) && nat_le (levels state session) 6
is_lawful_kind state session (entry.Change change) = is_lawful_change state session change
is_lawful_kind state session entry.Release = nat_le 2 (levels state session)
is_lawful_kind state session entry.Undo = nat_le 1 (levels state session)
is_lawful_kind state session entry.UndoAll = nat_le 1 (levels state session)
is_lawful_kind state session entry.Commit =
    (levels state session == 1) && is_unique_throughout (state_after state (record { session = record { 0 = session }; kind = entry.Commit })).tables
is_lawful_kind state session (entry.Schema made) = is_live state session && is_none (schema_refusal state session made) && has_next_numbers state made

-- Whether an entry may come next.
unfoldable pub is_lawful : DatabaseState → Entry → Bool
is_lawful state made = has_number state.number made.kind && is_lawful_kind state made.session.0 made.kind
