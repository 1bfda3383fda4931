-- The entries that are stored of an index, and which of them a reader is shown.
use Rattle.std.specs.Prelude.{ℕ, Bool, true, false, List, Option, Some, None, is_some}
use Rattle.column_set.specs.RecordValues.{RecordFields}
use Rattle.cursor_nav.specs.Places.{Pair}
use Rattle.database_state.specs.Conflicts.{yields_key}
use Rattle.database_state.specs.Table.{record_in}
use Rattle.index_derive.specs.declared.rules.IndexRule.{IndexRule}
use Rattle.index_derive.specs.declared.rules.Schema.{Schema}
use Rattle.table_trees.specs.StoredNodes.{bookmark_entries}
use Rattle.table_trees.specs.StoredTables.{StoredTable, index_entries, table_nodes}
use Rattle.version_store.specs.declared.calls.Reader.{Reader}
use Rattle.version_store.specs.HeldChanges.{SeenRow, current, row_before, absent}
use Rattle.laws_engine.specs.HeldRecords.{seen_record}
use Rattle.laws_engine.specs.VersionedTables.{VersionedTables}

-- the entries of an index with a tree of its own, or else the bookmarks of the nodes, each with itself
abbrev pub stored_entries : List StoredTable → ℕ → Option IndexRule → List Pair
stored_entries trees table None = bookmark_entries (table_nodes trees table)
stored_entries trees table (Some rule) = index_entries trees table rule.id.0

-- whether an entry with the key stands for a record: in the order of the bookmarks each does
abbrev pub is_entry_of : Option IndexRule → Schema → List ℕ → Option RecordFields → Bool
is_entry_of None schema key values = is_some values
is_entry_of (Some rule) schema key values = yields_key rule schema key values

-- whether it stands for the record that the reader sees under its bookmark
abbrev pub is_shown : Reader → VersionedTables → ℕ → Schema → Option IndexRule → Pair → Bool
is_shown reader store table schema rule entry = is_entry_of rule schema entry.0 (seen_record table entry.1 reader (record_in store.tables table entry.1) store.held)

-- whether the reader sees a record under the bookmark of an entry
abbrev pub is_seen : Reader → VersionedTables → ℕ → Pair → Bool
is_seen reader store table entry = is_some (seen_record table entry.1 reader (record_in store.tables table entry.1) store.held)

-- whether the row that a reader sees is there, given the newest one
abbrev pub is_row_seen : Option (List ℕ) → SeenRow → Bool
is_row_seen newest current = is_some newest
is_row_seen newest (row_before row) = true
is_row_seen newest absent = false
