-- What a change of a table's long values leaves.
use Rattle.std.specs.Prelude.{◌≡◌, ◌≢◌, ℕ, List, map}
use Rattle.long_value.specs.Values.{Values}
use Rattle.table_trees.specs.StoredTables.{StoredTable, table_indexes, table_long_values, table_nodes}

-- A table has these long values. All others keep theirs, and each table its nodes and its indexes.
pub record HasLongValues (table : ℕ) (values : Values) (old new : List StoredTable) : Type 0 where
  pub named : table_long_values new table ≡ values
  pub others : (other : ℕ) → other ≢ table → table_long_values new other ≡ table_long_values old other
  pub nodes : (other : ℕ) → table_nodes new other ≡ table_nodes old other
  pub indexes : (other : ℕ) → table_indexes new other ≡ table_indexes old other
  pub numbers : map (λ (t : StoredTable). t.number) new ≡ map (λ (t : StoredTable). t.number) old
