-- The columns of records that are seen rise, and each has a value.
use Rattle.std.proofs.Common.{◌≡◌, ℕ, true, List, map, Option, Some, None, option_map, sym, subst}
use Rattle.std.specs.Prelude.{IfSome, IsTrue}
use Rattle.column_set.specs.Record.{is_record}
use Rattle.column_set.specs.RecordValues.{RecordFields}
use Rattle.column_set.specs.RowReading.{row_in}
use Rattle.cursor_nav.specs.Places.{are_sorted}
use Rattle.database_state.specs.Table.{record_in}
use Rattle.jet_catalog.specs.Catalog.{CatalogState}
use Rattle.table_trees.specs.StoredNodes.{bookmark_entries}
use Rattle.table_trees.specs.StoredTables.{table_long_values, StoredTable, table_nodes}
use Rattle.version_store.specs.declared.calls.Reader.{Reader}
use Rattle.version_store.specs.HeldChanges.{HeldChange, SeenRow, current, row_before, absent, seen_row}
use Rattle.laws_engine.specs.HeldRecords.{seen_record}
use Rattle.stored_variants.specs.RecordRows.{IsRecordRow, record_of, row_under}
use Rattle.stored_variants.specs.StoredVersions.{StoredVersions}
use Rattle.stored_variants.specs.VersionsKept.{AreKept}
use Rattle.stored_variants.specs.VersionsView.{with_newest, stored_versions}
use Rattle.table_versions.proofs.SeenRecords.{IsSeenRow, record_seen, seen_is, seen_is_row}
use Rattle.stored_variants.proofs.Tables.{newest_at, newest_is_row}
use Rattle.stored_variants.proofs.RowRecords.{row-formed}
use Rattle.long_value.specs.Values.{Values}

abbrev IsFormed : RecordFields → Type 0
IsFormed fields = IsTrue (is_record fields)

-- ---- records that are seen

newest-formed : (vals : Values) (row : Option (List ℕ)) → IfSome row (IsRecordRow vals) → IfSome (option_map (record_of vals) row) IsFormed
newest-formed vals None is = tt
newest-formed vals (Some row) is = row-formed vals (row_in row) is.formed

seen-formed : (vals : Values) (newest : Option RecordFields) (seen : SeenRow) → IfSome newest IsFormed → IsSeenRow vals seen → IfSome (record_seen vals newest seen) IsFormed
seen-formed vals newest current formed is = formed
seen-formed vals newest (row_before row) formed is = row-formed vals (row_in row) is.formed
seen-formed vals newest absent formed is = tt

pub record-formed : (latest : ℕ) (catalog : CatalogState) (trees : List StoredTable) (held : List HeldChange) (stored : StoredVersions) → AreKept catalog.tables trees held → ((table : ℕ) → are_sorted (bookmark_entries (table_nodes trees table)) ≡ true)
    → stored_versions latest catalog trees held ≡ stored → (reader : Reader) (table : ℕ) (bookmark : List ℕ)
    → IfSome (seen_record table bookmark reader (record_in stored.store.tables table bookmark) stored.store.held) (λ fields. IsTrue (is_record fields))
record-formed latest catalog trees held stored kept sorted is reader table bookmark =
    let newest = record_in (map (with_newest trees) catalog.tables) table bookmark in
    let its : IfSome newest IsFormed =
    subst (λ (o : Option RecordFields). IfSome o IsFormed) (sym (newest_at (table_long_values trees) trees catalog.tables kept.numbers sorted table bookmark))
    (newest-formed (table_long_values trees table) (row_under (table_nodes trees table) bookmark) (newest_is_row (table_long_values trees) catalog.tables trees held kept table bookmark)) in
    subst (λ (v : StoredVersions). IfSome (seen_record table bookmark reader (record_in v.store.tables table bookmark) v.store.held) IsFormed) is
    (subst (λ (o : Option RecordFields). IfSome o IsFormed) (sym (seen_is (table_long_values trees) table bookmark reader newest held))
    (seen-formed (table_long_values trees table) newest (seen_row table bookmark reader held) its (seen_is_row (table_long_values trees) catalog.tables trees table bookmark reader held kept.changes)))
