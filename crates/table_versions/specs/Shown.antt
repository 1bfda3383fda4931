-- What the tables with versions show of a state: the laws that proofs above them rest on.
use Rattle.std.specs.Prelude.{◌≡◌, ℕ, true, List, is_some}
use Rattle.std.specs.List.{AllByRecursion}
use Rattle.database_state.specs.State.{DatabaseState, PastChange, transaction_of}
use Rattle.database_state.specs.Table.{index_entries, record_in, rows_of, table_with_id}
use Rattle.database_state.specs.View.{view}
use Rattle.index_derive.specs.declared.rules.Schema.{Schema}
use Rattle.laws_versions.specs.Records.{Records}
use Rattle.laws_versions.specs.KeySums.{SeesNoSum}
use Rattle.version_store.specs.declared.calls.Reader.{Reader}
use Rattle.laws_engine.specs.HeldRecords.{seen_record}
use Rattle.laws_engine.specs.Holding.{Holds, begin_of}
use Rattle.laws_engine.specs.VersionedTables.{VersionedTables, seen_tables}

-- an index whose keys no sum changes has the entries that the view of the reader's session has
abbrev pub ShowsEntries : Type 0
ShowsEntries =
    (base : Records) (dropped kept : List PastChange) (store : VersionedTables) (state : DatabaseState) → Holds base dropped kept store state
    → (reader : Reader) → reader.begin ≡ begin_of (transaction_of state reader.session.0) → (table : ℕ) (schema : Schema) → AllByRecursion (λ rule. SeesNoSum rule table kept) schema.indexes → (index : ℕ)
    → index_entries schema (rows_of (table_with_id (seen_tables reader store) table)) index ≡ index_entries schema (rows_of (table_with_id (view state reader.session.0) table)) index

-- a record of the shown tables is the one that the held changes tell
abbrev pub FindsShown : Type 0
FindsShown =
    (reader : Reader) (store : VersionedTables) (table : ℕ) (bookmark : List ℕ) → is_some (table_with_id store.tables table) ≡ true
    → record_in (seen_tables reader store) table bookmark ≡ seen_record table bookmark reader (record_in store.tables table bookmark) store.held
