-- Tables with versions, as contracts see them, and what is asked of them.
use Rattle.std.specs.Prelude.{ℕ, ◌+◌, Bool, not, nat_lt, List, [], ◌∷◌, Option, Some, None, if◌then◌else◌}
use Rattle.cursor_nav.specs.Places.{Pair}
use Rattle.column_set.specs.declared.changes.Change.{Change}
use Rattle.column_set.specs.ChangedRecords.{changed_table, changed_bookmark}
use Rattle.database_state.specs.Table.{Table, index_entries, record_in, schema_of, table_with_id}
use Rattle.database_state.specs.VersionStore.{cost_of}
use Rattle.version_store.specs.declared.calls.By.{By}
use Rattle.version_store.specs.declared.calls.Reader.{Reader}
use Rattle.version_store.specs.HeldChanges.{is_kept_status}
use Rattle.laws_engine.specs.HeldRecords.{HeldRecord, span}
use Rattle.laws_engine.specs.VersionedTables.{VersionedTables, seen_tables}

-- The greatest table id ever given, the number of the newest log entry that put a record, 0 where none did, and the tables with
-- their newest records beside the held changes.
pub record StoredVersions : Type 0 where
  pub greatest_table : ℕ
  pub newest_put : ℕ
  pub store : VersionedTables

-- ---- what a reader walks

-- the entries of an index, derived afresh of the records of a table; none where there is no such table
abbrev pub entries_in : ℕ → Option Table → List Pair
entries_in index None = []
entries_in index (Some table) = index_entries (schema_of table) table.rows index

-- the same of the tables as a reader sees them
abbrev pub seen_entries : Reader → VersionedTables → ℕ → ℕ → List Pair
seen_entries reader store table index = entries_in index (table_with_id (seen_tables reader store) table)

-- ---- the span

-- whether the span stays within the limit with this change
abbrev pub has_room : By → Change → VersionedTables → Bool
has_room by made store =
    not (nat_lt by.limit (span by.oldest store.held + cost_of made (record_in store.tables (changed_table made) (changed_bookmark made))))

-- The number of the oldest held change, where it can be forgotten: it is neither open nor committed after the oldest open
-- transaction began.
abbrev pub next_to_forget : Option ℕ → List HeldRecord → Option ℕ
next_to_forget oldest [] = None
next_to_forget oldest (held ∷ changes) = if is_kept_status oldest held.status then None else Some held.number
