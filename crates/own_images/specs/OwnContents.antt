-- What an image shows of a table, against what the trees of the table hold.
use Rattle.std.specs.Prelude.{◌≡◌, ℕ, List, [], ◌∷◌, length, map}
use Rattle.std.specs.List.{AllByRecursion}
use Rattle.cursor_nav.specs.Places.{Pair}
use Rattle.index_tree.specs.Entries.{entry_of_node, node_of_entry}
use Rattle.long_value.specs.Shown.{value_at}
use Rattle.long_value.specs.Values.{LongValue, chunk_count, head_node, nodes_of_values, with_chunks, with_value}
use Rattle.page_image.specs.Page.{Node}
use Rattle.table_trees.specs.StoredTables.{StoredTable, index_entries, table_long_values, table_nodes}
use Rattle.image_findings.specs.TableContents.{TableContents, long_values}
use Rattle.image_findings.specs.ValueFindings.{nodes_of_value}

-- the nodes are those of the entries, and are read as them
abbrev pub AreNodesOf : List Node → List Pair → Type 0
AreNodesOf nodes entries = (nodes ≡ map node_of_entry entries) × (map entry_of_node nodes ≡ entries)

-- It shows the nodes of its records, those of its long values, and those of the entries of its indexes.
pub record HasOwnContents (trees : List StoredTable) (t : TableContents) : Type 0 where
  pub nodes : t.nodes ≡ table_nodes trees t.table.id
  pub value_nodes : t.value_nodes ≡ nodes_of_values (table_long_values trees t.table.id)
  pub long_values : long_values t ≡ table_long_values trees t.table.id
  pub indexes : AllByRecursion (λ index. AreNodesOf index.1 (index_entries trees t.table.id index.0.id.0)) t.indexes

-- Of the nodes of long values, those with the identifier of one are its own, the head first, and they show it.
pub record IsOwnValue (all : List Node) (row : List ℕ × LongValue) : Type 0 where
  pub own : nodes_of_value row.0 all ≡ with_value row.0 row.1 []
  pub first : with_value row.0 row.1 [] ≡ head_node row.0 row.1 ∷ with_chunks row.0 row.1.bytes (chunk_count (length row.1.bytes)) []
  pub shown : value_at (nodes_of_value row.0 all) (head_node row.0 row.1) ≡ row.1
