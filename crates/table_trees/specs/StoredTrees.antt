-- What a store of tables has: the tables, and beside them the catalog with the root pages of their trees.
use Rattle.std.specs.Prelude.{ℕ, ◌==◌, Bool, List, [], ◌∷◌, ◌++◌, find, unwrap_or}
use Rattle.std.specs.Option.{option_map}
use Rattle.page_image.specs.Page.{Node}
use Rattle.catalog_grammar.specs.Catalogs.{TableRoots}
use Rattle.catalog_grammar.specs.CatalogSteps.{Roots}
use Rattle.table_trees.specs.StoredTables.{StoredTable, changed_where, without_where}

-- The root pages of the trees of a table: that of its nodes, that of its long values, and those of its indexes, each behind
-- the index's number. A root page stays the same while its tree stands.
pub record StoredRoots : Type 0 where
  pub number : ℕ
  pub records : ℕ
  pub long_values : ℕ
  pub indexes : List (ℕ × ℕ)

-- The nodes of the catalog, which rise by their keys, and the roots of the tables, in the order of the tables.
pub record StoredCatalog : Type 0 where
  pub nodes : List Node
  pub roots : List StoredRoots

pub record StoredTrees : Type 0 where
  pub tables : List StoredTable
  pub catalog : StoredCatalog

-- ---- the roots of the tables, by number

-- what was found behind a number, 0 where nothing was
abbrev pub root_behind : ℕ → List (ℕ × ℕ) → ℕ
root_behind index roots = unwrap_or (option_map (λ x. x.1) (find (λ x. x.0 == index) roots)) 0

-- the roots as the catalog's nodes have them: 0 for the primary index, which has no tree
abbrev pub told_roots : StoredRoots → TableRoots
told_roots roots = record { records = roots.records; long_values = roots.long_values; indexes = λ index. root_behind index roots.indexes }

abbrev pub no_roots : TableRoots
no_roots = record { records = 0; long_values = 0; indexes = λ index. 0 }

-- whether these are the roots of the table of this number
abbrev pub are_roots_of : ℕ → StoredRoots → Bool
are_roots_of table roots = roots.number == table

abbrev pub roots_by_number : List StoredRoots → Roots
roots_by_number list table = unwrap_or (option_map told_roots (find (are_roots_of table) list)) no_roots

-- ---- changes

abbrev pub put_roots : List StoredRoots → StoredCatalog → StoredCatalog
put_roots roots catalog = record catalog { roots = roots }

-- a table without an index
abbrev pub new_roots : ℕ → ℕ → ℕ → StoredRoots
new_roots table records long_values = record { number = table; records = records; long_values = long_values; indexes = [] }

abbrev pub put_index_roots : List (ℕ × ℕ) → StoredRoots → StoredRoots
put_index_roots indexes roots = record roots { indexes = indexes }

-- one index more, behind the others, and one less
abbrev pub with_index_root : ℕ → ℕ → StoredRoots → StoredRoots
with_index_root index root roots = put_index_roots (roots.indexes ++ (index, root) ∷ []) roots

abbrev pub without_index_root : ℕ → StoredRoots → StoredRoots
without_index_root index roots = put_index_roots (without_where (λ x. x.0 == index) roots.indexes) roots

-- the same nodes, with the roots of a table more, behind the others, or less
abbrev pub with_table_roots : ℕ → ℕ → ℕ → StoredCatalog → StoredCatalog
with_table_roots table records long_values catalog = put_roots (catalog.roots ++ new_roots table records long_values ∷ []) catalog

abbrev pub without_table_roots : ℕ → StoredCatalog → StoredCatalog
without_table_roots table catalog = put_roots (without_where (are_roots_of table) catalog.roots) catalog

-- the same nodes, with the root of an index of a table more, or less
abbrev pub with_root_of : ℕ → ℕ → ℕ → StoredCatalog → StoredCatalog
with_root_of table index root catalog = put_roots (changed_where (are_roots_of table) (with_index_root index root) catalog.roots) catalog

abbrev pub without_root_of : ℕ → ℕ → StoredCatalog → StoredCatalog
without_root_of table index catalog = put_roots (changed_where (are_roots_of table) (without_index_root index) catalog.roots) catalog
