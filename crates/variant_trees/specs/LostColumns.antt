-- Rows, nodes and trees once a column has gone with its values.
use Rattle.std.specs.Prelude.{◌≡◌, ◌≢◌, ℕ, List, [], Some, None, IfSome}
use Rattle.column_set.specs.RecordValues.{remove_by_number}
use Rattle.column_set.specs.RowReading.{row_in}
use Rattle.column_set.specs.Rows.{row_bytes}
use Rattle.long_rows.specs.ReferenceCounts.{HasCounts}
use Rattle.long_value.specs.Values.{Values}
use Rattle.page_image.specs.Page.{Node}
use Rattle.table_trees.specs.StoredNodes.{put_data}
use Rattle.table_trees.specs.StoredTables.{StoredTable, long_value_of, table_indexes, table_long_values, table_nodes}
use Rattle.stored_variants.specs.CountedValues.{newest_rows}
use Rattle.stored_variants.specs.RecordRows.{IsRecordRow, record_of, row_under}
use Rattle.variant_trees.specs.GoneKeys.{table_numbers}

-- a row without the values of a column
abbrev pub row_without : ℕ → List ℕ → List ℕ
row_without column row = row_bytes (remove_by_number column (row_in row))

abbrev pub node_without : ℕ → Node → Node
node_without column n = put_data (row_without column n.data) n

-- a node that has a record
abbrev pub HoldsRecord : Values → Node → Type 0
HoldsRecord values n = IsRecordRow values n.data

-- One table has these nodes. All others keep theirs, and each table its indexes.
pub record HasNodes (table : ℕ) (these : List Node) (trees other : List StoredTable) : Type 0 where
  pub nodes : table_nodes other table ≡ these
  pub others : (id : ℕ) → id ≢ table → table_nodes other id ≡ table_nodes trees id
  pub indexes : (id : ℕ) → table_indexes other id ≡ table_indexes trees id
  pub numbers : table_numbers other ≡ table_numbers trees

-- The long values of the other tables stay. A value of this table that was not there is not there, each has as many references as rows
-- refer to it, and each row stands for the record that it stood for.
pub record LosesValues (table : ℕ) (old new : List StoredTable) : Type 0 where
  pub others : (other : ℕ) → other ≢ table → table_long_values new other ≡ table_long_values old other
  pub none : (id : List ℕ) → long_value_of old table id ≡ None → long_value_of new table id ≡ None
  pub counts : HasCounts (table_long_values new table) (newest_rows (table_nodes new table)) []
  pub rows : (bookmark : List ℕ) → IfSome (row_under (table_nodes new table) bookmark) (λ row. IsRecordRow (table_long_values new table) row × (record_of (table_long_values new table) row ≡ record_of (table_long_values old table) row))

-- The same of one row that is written anew, where those that are there can be read.
pub record GivesUp (table : ℕ) (old new : List StoredTable) : Type 0 where
  pub others : (other : ℕ) → other ≢ table → table_long_values new other ≡ table_long_values old other
  pub none : (id : List ℕ) → long_value_of old table id ≡ None → long_value_of new table id ≡ None
  pub counts : HasCounts (table_long_values new table) (newest_rows (table_nodes new table)) []
  pub rows : (bookmark row : List ℕ) → row_under (table_nodes new table) bookmark ≡ Some row → IsRecordRow (table_long_values old table) row
      → IsRecordRow (table_long_values new table) row × (record_of (table_long_values new table) row ≡ record_of (table_long_values old table) row)
