-- When the tables with versions can make a change of a record.
use Rattle.std.specs.Prelude.{◌≡◌, true, is_some, IsSomeAnd, IsTrue}
use Rattle.column_set.specs.Record.{is_record}
use Rattle.column_set.specs.declared.changes.Change.{Change}
use Rattle.column_set.specs.declared.changes.Change.TheVariants.{Put, Drop, Hold, Add}
use Rattle.database_state.specs.Table.{record_in, schema_of, table_with_id}
use Rattle.index_derive.specs.Entries.{is_escrow_column}
use Rattle.version_store.specs.declared.calls.By.{By}
use Rattle.laws_engine.specs.VersionedTables.{VersionedTables, with_change}
use Rattle.stored_variants.specs.PutRecords.{IsStorable}
use Rattle.stored_variants.specs.StoredVersions.{StoredVersions}
use Rattle.laws_engine.specs.EngineSteps.{newest_with}

-- A record that is put can be stored in its table, one that is dropped is there, a lock is in a table, and a sum is one of an
-- escrow column of a table.
abbrev pub CanChange : VersionedTables → Change → Type 0
CanChange store (Put table bookmark copied values) = IsSomeAnd (table_with_id store.tables table.0) (λ t. IsStorable t bookmark values)
CanChange store (Drop table bookmark) = is_some (record_in store.tables table.0 bookmark) ≡ true
CanChange store (Hold table bookmark) = is_some (table_with_id store.tables table.0) ≡ true
CanChange store (Add table bookmark column amount) = IsSomeAnd (table_with_id store.tables table.0) (λ t. is_escrow_column (schema_of t) column.0 ≡ true)

-- the tables with a change, of which a put is the newest one
abbrev pub changed : By → Change → StoredVersions → StoredVersions
changed by made tables = record tables {
  newest_put = newest_with by.number made tables.newest_put;
  store = with_change by made tables.store;
}

-- the record of a put has its columns in order, each with a value
abbrev pub IsFormed : Change → Type 0
IsFormed (Put table bookmark copied values) = IsTrue (is_record values)
IsFormed (Drop table bookmark) = Unit {0}
IsFormed (Hold table bookmark) = Unit {0}
IsFormed (Add table bookmark column amount) = Unit {0}
