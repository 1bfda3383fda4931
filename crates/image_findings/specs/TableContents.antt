-- What the trees of an image have of a table.
use Rattle.std.specs.Prelude.{ℕ, ◌==◌, Bool, false, not, ◌&&◌, ◌||◌, nat_le, nat_lt, List, length, map, find, Option, Some, None, bytes_eq}
use Rattle.std.specs.List.{list_all}
use Rattle.column_set.specs.declared.columns.Column.{Column}
use Rattle.column_set.specs.declared.rows.RowValue.{RowValue}
use Rattle.column_set.specs.declared.rows.RowValue.TheVariants.{Here, Apart}
use Rattle.column_set.specs.RecordValues.{column_of_id, is_kept_column, value_fits}
use Rattle.column_set.specs.RowReading.{row_in}
use Rattle.column_set.specs.Rows.{RowFields, is_row, largest_row, row_bytes, row_values_of}
use Rattle.jet_base.specs.TypeKinds.{is_long_type}
use Rattle.jet_base.specs.declared.words.ColType.{ColType}
use Rattle.catalog_grammar.specs.Catalogs.{CatalogTable}
use Rattle.database_state.specs.Table.{Table}
use Rattle.index_derive.specs.declared.rules.IndexRule.{IndexRule}
use Rattle.long_value.specs.Shown.{shown_values}
use Rattle.long_value.specs.Values.{Values}
use Rattle.page_image.specs.Page.{Node}
use Rattle.page_space.specs.Frames.{Frames}
use Rattle.stored_variants.specs.CountedValues.{newest_rows, rows_before}
use Rattle.stored_variants.specs.RecordRows.{rows_of_nodes}
use Rattle.long_rows.specs.ReferenceCounts.{reference_count}
use Rattle.version_store.specs.HeldChanges.{HeldChange}
use Rattle.image_findings.specs.CatalogFindings.{rooted_indexes, table_of}
use Rattle.image_findings.specs.TreeFindings.{nodes_below}

-- A table of the catalog, the nodes of its records, those of its long values, and those of each index that has a tree.
pub record TableContents : Type 0 where
  pub table : Table
  pub nodes : List Node
  pub value_nodes : List Node
  pub indexes : List (IndexRule × List Node)

abbrev pub contents_below : Frames → CatalogTable → TableContents
contents_below frames x = record {
  table = table_of x;
  nodes = nodes_below frames x.table.records;
  value_nodes = nodes_below frames x.table.long_values;
  indexes = map (λ index. (index.1, nodes_below frames index.0)) (rooted_indexes x);
}

abbrev pub contents_with_id : List TableContents → ℕ → Option TableContents
contents_with_id tables id = find (λ t. t.table.id == id) tables

-- its long values
abbrev pub long_values : TableContents → Values
long_values t = shown_values t.value_nodes

-- the table with its newest records
abbrev pub newest_table : TableContents → Table
newest_table t = record t.table { rows = rows_of_nodes (long_values t) t.nodes }

-- how many of its newest rows, and of the rows before held changes, refer to a long value
abbrev pub wanted_count : List HeldChange → TableContents → List ℕ → ℕ
wanted_count held t id = reference_count id (newest_rows t.nodes) (rows_before t.table.id held)

-- ---- rows

-- the bytes are those of a row of 1,700 bytes at most
abbrev pub is_short_row : List ℕ → Bool
is_short_row bytes = is_row (row_in bytes) && (bytes_eq bytes (row_bytes (row_in bytes)) && nat_le (length bytes) largest_row)

-- whether a value is one of the type; one that is kept apart is one of a long type
abbrev pub row_value_fits : ColType → RowValue → Bool
row_value_fits type (Here bytes) = value_fits type bytes
row_value_fits type (Apart entry place size) = is_long_type type

-- whether the values of a row stand under a column that takes them
abbrev pub field_fits : List Column → ℕ × List RowValue → Bool
field_fits columns field = elim (column_of_id columns field.0) [
  | Some column ↦ (column.multi || nat_le (length field.1) 1) && list_all (row_value_fits column.kind) field.1
  | None ↦ false
]

-- whether the values of a row fit the columns: each stands under a column that takes it, and each column that the engine keeps has one
abbrev pub row_fits : List Column → RowFields → Bool
row_fits columns row = list_all (field_fits columns) row && list_all (λ column. not (is_kept_column column) || nat_lt 0 (length (row_values_of row column.id.0))) columns
