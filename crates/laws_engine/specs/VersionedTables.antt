-- The tables with their newest records beside the changes of the past that are held, and what a reader is shown of them.
use Rattle.std.specs.Prelude.{◌≡◌, ℕ, ◌==◌, ◌&&◌, Bool, true, false, List, [], ◌∷◌, ◌++◌, map, drop, Option, Some, None, if◌then◌else◌}
use Rattle.std.specs.List.{list_any}
use Rattle.column_set.specs.declared.changes.Change.{Change}
use Rattle.column_set.specs.RecordValues.{RecordFields}
use Rattle.index_derive.specs.declared.log.EntryKind.{EntryKind}
use Rattle.index_derive.specs.declared.log.EntryKind.TheVariants as entry
use Rattle.index_derive.specs.declared.schema_calls.SchemaStep.{SchemaStep}
use Rattle.database_state.specs.Table.{Table, Rows, record_in, with_row, without_row}
use Rattle.database_state.specs.Changes.{tables_after}
use Rattle.column_set.specs.ChangedRecords.{changed_table, changed_bookmark}
use Rattle.database_state.specs.SchemaChanges.{tables_after_step}
use Rattle.version_store.specs.declared.calls.By.{By}
use Rattle.version_store.specs.declared.calls.Reader.{Reader}
use Rattle.version_store.specs.HeldChanges.{is_rewrite}
use Rattle.laws_engine.specs.HeldRecords.{HeldRecord, as_undone, is_unseen, new_change, released_change, committed_change, undone_change, inverse}

-- The tables, each with its newest records, and the held changes, oldest first.
pub record VersionedTables : Type 0 where
  pub tables : List Table
  pub held : List HeldRecord

-- ---- what a reader is shown

-- a put or a drop in the table that the reader does not see
abbrev pub hides_in : ℕ → Reader → HeldRecord → Bool
hides_in table reader held = (held.table == table) && is_rewrite held.kind && is_unseen reader held

-- the records of a table with another one, or none, under a bookmark
abbrev pub rows_with : Rows → List ℕ → Option RecordFields → Rows
rows_with rows bookmark None = without_row rows bookmark
rows_with rows bookmark (Some values) = with_row rows bookmark values

-- A reader sees the newest records of a table but for the puts and drops that it does not see: these are taken back, the
-- newest first.
abbrev pub seen_rows : ℕ → Reader → List HeldRecord → Rows → Rows
seen_rows table reader [] rows = rows
seen_rows table reader (held ∷ changes) rows =
    let later = seen_rows table reader changes rows in
    if hides_in table reader held then rows_with later held.bookmark held.before else later

-- the tables as a reader sees them
abbrev pub seen_table : Reader → List HeldRecord → Table → Table
seen_table reader changes table = record table { rows = seen_rows table.id reader changes table.rows }

abbrev pub seen_tables : Reader → VersionedTables → List Table
seen_tables reader store = map (seen_table reader store.held) store.tables

-- ---- changes

-- A change sets or removes its newest record, and is held behind the others with the record before it.
abbrev pub with_change : By → Change → VersionedTables → VersionedTables
with_change by made store = record {
  tables = tables_after store.tables made;
  held = store.held ++ new_change by made (record_in store.tables (changed_table made) (changed_bookmark made)) ∷ [];
}

-- ---- ends of levels and transactions, and cleans

abbrev pub with_level_released : ℕ → ℕ → VersionedTables → VersionedTables
with_level_released session level store = record store { held = map (released_change session level) store.held }

abbrev pub with_session_committed : ℕ → ℕ → VersionedTables → VersionedTables
with_session_committed session number store = record store { held = map (committed_change session number) store.held }

-- without the oldest held change
abbrev pub without_oldest : VersionedTables → VersionedTables
without_oldest store = record store { held = drop 1 store.held }

-- ---- undo

-- the held changes that pass are taken back, the newest first
abbrev pub tables_taken_back : (HeldRecord → Bool) → List HeldRecord → List Table → List Table
tables_taken_back test [] tables = tables
tables_taken_back test (held ∷ changes) tables =
    let later = tables_taken_back test changes tables in
    if test held then tables_after later (inverse held) else later

abbrev pub with_changes_undone : (HeldRecord → Bool) → VersionedTables → VersionedTables
with_changes_undone test store = record {
  tables = tables_taken_back test store.held store.tables;
  held = map (undone_change test) store.held;
}

-- the last held change that passes is taken back, and undone
abbrev pub tables_with_last_back : (HeldRecord → Bool) → List HeldRecord → List Table → List Table
tables_with_last_back test [] tables = tables
tables_with_last_back test (held ∷ changes) tables =
    if list_any test changes then tables_with_last_back test changes tables else if test held then tables_after tables (inverse held) else tables

abbrev pub last_undone : (HeldRecord → Bool) → List HeldRecord → List HeldRecord
last_undone test [] = []
last_undone test (held ∷ changes) = if list_any test changes then held ∷ last_undone test changes else undone_change test held ∷ changes

abbrev pub with_last_undone : (HeldRecord → Bool) → VersionedTables → VersionedTables
with_last_undone test store = record {
  tables = tables_with_last_back test store.held store.tables;
  held = last_undone test store.held;
}

-- no change that is undone passes
abbrev pub LeavesUndone : (HeldRecord → Bool) → Type 0
LeavesUndone test = (held : HeldRecord) → test (as_undone held) ≡ false

-- ---- schema steps

-- A schema step is made once no change is held.
abbrev pub with_schema_step : SchemaStep → VersionedTables → VersionedTables
with_schema_step made store = record { tables = tables_after_step store.tables made; held = [] }

-- whether an entry tells of a session, its open tables or its levels alone
abbrev pub leaves_tables : EntryKind → Bool
leaves_tables entry.Enter = true
leaves_tables (entry.Open table) = true
leaves_tables (entry.Shut table) = true
leaves_tables entry.Begin = true
leaves_tables entry.Save = true
leaves_tables _ = false
