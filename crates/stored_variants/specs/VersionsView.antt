-- What the parts of the store show together.
use Rattle.std.specs.Prelude.{ℕ, List, map}
use Rattle.database_state.specs.Table.{Table}
use Rattle.jet_catalog.specs.Catalog.{CatalogState}
use Rattle.table_trees.specs.StoredTables.{StoredTable, table_long_values, table_nodes}
use Rattle.version_store.specs.HeldChanges.{HeldChange}
use Rattle.stored_variants.specs.RecordRows.{TableValues, held_record_in, rows_of_nodes}
use Rattle.stored_variants.specs.StoredVersions.{StoredVersions}

-- a table of the catalog with its newest records, given the long values of each table
abbrev pub with_newest_by : TableValues → List StoredTable → Table → Table
with_newest_by longs trees table = record table { rows = rows_of_nodes (longs table.id) (table_nodes trees table.id) }

abbrev pub with_newest : List StoredTable → Table → Table
with_newest trees table = with_newest_by (table_long_values trees) trees table

-- the number of the newest put, the catalog, the trees and the held changes
abbrev pub stored_versions : ℕ → CatalogState → List StoredTable → List HeldChange → StoredVersions
stored_versions newest catalog trees held = record {
  greatest_table = catalog.greatest_table;
  newest_put = newest;
  store = record { tables = map (with_newest trees) catalog.tables; held = map (held_record_in (table_long_values trees)) held };
}
