-- The trees of a space by their root pages.
use Rattle.std.specs.Prelude.{◌≡◌, ◌≤◌, ℕ, Option, Some, None, List, [], ◌∷◌, ◌++◌, All, map}
use Rattle.std.specs.List.{flat_map}
use Rattle.page_image.specs.Page.{Node}
use Rattle.page_space.specs.Frames.{Frames}
use Rattle.btree_inplace.specs.Shape.{IsSubtree, entries, pages}
use Rattle.btree_inplace.specs.declared.TheConstants.{MAX_DEPTH}
use Rattle.catalog_grammar.specs.Catalogs.{catalog_nodes}
use Rattle.index_tree.specs.Entries.{entry_of_node, node_of_entry}
use Rattle.long_value.specs.Shown.{shown_values}
use Rattle.long_value.specs.Values.{Values, nodes_of_values}
use Rattle.table_trees.specs.Pages.{IsForest}
use Rattle.table_trees.specs.StoredTables.{StoredIndex, StoredTable}
use Rattle.table_trees.specs.StoredTrees.{StoredRoots, StoredTrees}

-- A page is the root of a tree with these nodes and no other, which has at most MAX_DEPTH inner pages one below the other.
abbrev pub IsRootOf : Frames → ℕ → List Node → Type 0
IsRootOf frames root nodes = (depth : ℕ) × (depth ≤ MAX_DEPTH) × IsSubtree depth frames root × (entries depth frames root ≡ nodes)

-- of one with the nodes of these long values, which show them
abbrev pub IsRootOfValues : Frames → ℕ → Values → Type 0
IsRootOfValues frames root values = IsRootOf frames root (nodes_of_values values) × (shown_values (nodes_of_values values) ≡ values)

-- of one with the nodes of the entries of an index, which are read as them, behind the number of that index
abbrev pub IsRootOfIndex : Frames → ℕ × ℕ → StoredIndex → Type 0
IsRootOfIndex frames root index = IsRootOf frames root.1 (map node_of_entry index.1) × (map entry_of_node (map node_of_entry index.1) ≡ index.1) × (root.0 ≡ index.0)

abbrev pub AreRootsOfIndexes : Frames → List (ℕ × ℕ) → List StoredIndex → Type 0
AreRootsOfIndexes frames [] [] = Unit {0}
AreRootsOfIndexes frames [] (index ∷ indexes) = ⊥
AreRootsOfIndexes frames (root ∷ roots) [] = ⊥
AreRootsOfIndexes frames (root ∷ roots) (index ∷ indexes) = IsRootOfIndex frames root index × AreRootsOfIndexes frames roots indexes

-- The root pages of a table, which bear its number, are those of trees with its nodes, those of its long values and those of the entries
-- of its indexes.
pub record AreRootsOfTable (frames : Frames) (roots : StoredRoots) (table : StoredTable) : Type 0 where
  pub number : roots.number ≡ table.number
  pub nodes : IsRootOf frames roots.records table.nodes
  pub long_values : IsRootOfValues frames roots.long_values table.long_values
  pub indexes : AreRootsOfIndexes frames roots.indexes table.indexes

-- the same of all tables, in their order
abbrev pub AreRootsOfTables : Frames → List StoredRoots → List StoredTable → Type 0
AreRootsOfTables frames [] [] = Unit {0}
AreRootsOfTables frames [] (table ∷ tables) = ⊥
AreRootsOfTables frames (roots ∷ others) [] = ⊥
AreRootsOfTables frames (roots ∷ others) (table ∷ tables) = AreRootsOfTable frames roots table × AreRootsOfTables frames others tables

-- The root page of the catalog is that of a tree with its nodes. While it has none it is the catalog of an empty database.
abbrev pub IsRootOfCatalog : Frames → Option ℕ → List Node → Type 0
IsRootOfCatalog frames None nodes = nodes ≡ catalog_nodes 0 []
IsRootOfCatalog frames (Some root) nodes = IsRootOf frames root nodes

-- ---- the pages of all trees

-- the root pages of all trees: the catalog's, if it has one, and then each table's, in the order of the tables
abbrev pub catalog_roots : Option ℕ → List ℕ
catalog_roots None = []
catalog_roots (Some root) = root ∷ []

abbrev pub roots_of_table : StoredRoots → List ℕ
roots_of_table roots = roots.records ∷ roots.long_values ∷ map (λ x. x.1) roots.indexes

abbrev pub all_roots : Option ℕ → List StoredRoots → List ℕ
all_roots catalog roots = catalog_roots catalog ++ flat_map roots_of_table roots

-- A tree is found by its root page and by the number of inner pages above each of its leaves, which the pages tell.
pub record TreePlace : Type 0 where
  pub root : ℕ
  pub depth : ℕ

abbrev pub place_pages : Frames → TreePlace → List ℕ
place_pages frames place = pages place.depth frames place.root

-- Trees stand below these root pages, none deeper than a tree may be, and each page that is taken is in one of them, and there once.
pub record AreRootsOfAllPages (frames : Frames) (roots : List ℕ) : Type 0 where
  pub places : List TreePlace
  pub roots_are : map (λ place. place.root) places ≡ roots
  pub shapes : All (λ place. (place.depth ≤ MAX_DEPTH) × IsSubtree place.depth frames place.root) places
  pub forest : IsForest frames (flat_map (place_pages frames) places)

-- A space has the trees of the catalog and of all tables, each with exactly its nodes, and no page that is taken is outside of them or in
-- two. Where the catalog has no root page, it is that of an empty database.
pub record StandsIn (frames : Frames) (catalog_root : Option ℕ) (stored : StoredTrees) : Type 0 where
  pub catalog : IsRootOfCatalog frames catalog_root stored.catalog.nodes
  pub tables : AreRootsOfTables frames stored.catalog.roots stored.tables
  pub pages : AreRootsOfAllPages frames (all_roots catalog_root stored.catalog.roots)
