-- What the fields of a store show, and what they keep.
use Rattle.std.specs.Prelude.{ℕ, ◌≤◌, List, ◌++◌, All, count_by, map}
use Rattle.std.specs.List.{flat_map}
use Rattle.page_space.specs.Frames.{Frames}
use Rattle.table_trees.specs.Pages.{IsForest}
use Rattle.table_trees.specs.StoredTables.{StoredTable, is_table}
use Rattle.table_trees.specs.StoredTrees.{StoredCatalog, StoredTrees}
use Rattle.table_trees.specs.KeptCatalogs.{IsKeptCatalog, kept_nodes, kept_pages}
use Rattle.table_trees.specs.TableParts.{IsTable, stored_table, table_pages, tree_roots}
use Rattle.table_trees.specs.declared.catalog.KeptCatalog.{KeptCatalog}
use Rattle.table_trees.specs.declared.table.Table.{Table}
use Rattle.table_trees.specs.declared.trees.TableTrees.TheInside.{Inside}

abbrev pub stored_tables : Frames → List Table → List StoredTable
stored_tables frames tables = map (stored_table frames) tables

abbrev pub stored_catalog : Frames → KeptCatalog → List Table → StoredCatalog
stored_catalog frames kept tables = record { nodes = kept_nodes frames kept; roots = map tree_roots tables }

-- The tree of the catalog and the trees of all tables are a forest, each of them in order, and no two tables have one number.
pub record AreTables (frames : Frames) (kept : KeptCatalog) (tables : List Table) : Type 0 where
  pub catalog : IsKeptCatalog frames kept
  pub each : All (IsTable frames) tables
  pub forest : IsForest frames (kept_pages frames kept ++ flat_map (table_pages frames) tables)
  pub once : (table : ℕ) → count_by (is_table table) (stored_tables frames tables) ≤ 1

abbrev pub stored : Inside → StoredTrees
stored store = record { tables = stored_tables store.space store.tables.items; catalog = stored_catalog store.space store.catalog store.tables.items }

abbrev pub IsKept : Inside → Type 0
IsKept store = AreTables store.space store.catalog store.tables.items
