-- The trees of one table: that of its nodes, that of its long values, and those of its indexes.
use Rattle.std.specs.Prelude.{◌≡◌, ℕ, ◌≤◌, List, ◌++◌, All, count_by, map}
use Rattle.std.specs.List.{flat_map}
use Rattle.page_space.specs.Frames.{Frames}
use Rattle.index_tree.specs.IndexTrees.{IsIndexTree, entries_of, own_pages, root_of}
use Rattle.table_trees.specs.Pages.{AreOwn, Rearranges}
use Rattle.table_trees.specs.StoredTables.{StoredIndex, StoredTable, is_index}
use Rattle.table_trees.specs.StoredTrees.{StoredRoots}
use Rattle.table_trees.specs.LongTrees.{IsLongTree, long_pages, long_root, long_values_in}
use Rattle.table_trees.specs.NodeTrees.{IsNodeTree, node_pages, node_root, nodes_in}
use Rattle.table_trees.specs.declared.table.TableIndex.{TableIndex}
use Rattle.table_trees.specs.declared.table.Table.{Table}

-- an index's number with its entries
abbrev pub stored_index : Frames → TableIndex → StoredIndex
stored_index frames x = (x.index.0, entries_of frames x.tree)

abbrev pub index_pages : Frames → TableIndex → List ℕ
index_pages frames x = own_pages frames x.tree

abbrev pub IsIndex : Frames → TableIndex → Type 0
IsIndex frames x = IsIndexTree frames x.tree

-- what a table has
abbrev pub stored_table : Frames → Table → StoredTable
stored_table frames table = record { number = table.table.0; nodes = nodes_in frames table.nodes; indexes = map (stored_index frames) table.indexes.items; long_values = long_values_in frames table.long_values }

-- the root pages of its trees
abbrev pub index_root : TableIndex → ℕ × ℕ
index_root x = (x.index.0, root_of x.tree)

abbrev pub tree_roots : Table → StoredRoots
tree_roots table = record { number = table.table.0; records = node_root table.nodes; long_values = long_root table.long_values; indexes = map index_root table.indexes.items }

-- the pages of its nodes and of its long values
abbrev pub record_pages : Frames → Table → List ℕ
record_pages frames table = node_pages frames table.nodes ++ long_pages frames table.long_values

-- the pages of all its trees
abbrev pub table_pages : Frames → Table → List ℕ
table_pages frames table = record_pages frames table ++ flat_map (index_pages frames) table.indexes.items

-- Each tree is in order, no two of them have a page in common, and no two indexes have one number.
pub record IsTable (frames : Frames) (table : Table) : Type 0 where
  pub nodes : IsNodeTree frames table.nodes
  pub long_values : IsLongTree frames table.long_values
  pub indexes : All (IsIndex frames) table.indexes.items
  pub pages : AreOwn frames (table_pages frames table)
  pub once : (index : ℕ) → count_by (is_index index) (map (stored_index frames) table.indexes.items) ≤ 1

-- A table has become another, which has this, with these roots.
pub record TableBecomes (old : Frames) (was : Table) (new : Frames) (is : Table) (value : StoredTable) (roots : StoredRoots) : Type 0 where
  pub table : IsTable new is
  pub stored : stored_table new is ≡ value
  pub pages : Rearranges old new (table_pages old was) (table_pages new is)
  pub roots_are : tree_roots is ≡ roots
