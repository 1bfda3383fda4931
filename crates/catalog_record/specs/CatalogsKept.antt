-- The catalog that a tree keeps, and what its schema steps ask.
use Rattle.std.specs.Prelude.{◌≡◌, ℕ, ◌<◌, true, false, Some, List, length, map, take, slice_index_or, IsSome, IsTrue}
use Rattle.jet_base.specs.declared.ids.ColumnId.{ColumnId}
use Rattle.jet_base.specs.declared.ids.IndexId.{IndexId}
use Rattle.jet_base.specs.declared.ids.TableId.{TableId}
use Rattle.column_set.specs.declared.columns.Column.{Column}
use Rattle.index_derive.specs.declared.rules.IndexRule.{IndexRule}
use Rattle.index_derive.specs.declared.schema_calls.SchemaStep.{SchemaStep}
use Rattle.index_derive.specs.declared.schema_calls.SchemaStep.TheVariants as step
use Rattle.database_state.specs.SchemaChanges.{has_column, new_table, with_column}
use Rattle.database_state.specs.Table.{GreatestColumns, Table, table_with_id}
use Rattle.jet_catalog.specs.Catalog.{CatalogState, IsNumbered, catalog_after, has_new_id}
use Rattle.page_image.specs.Page.{Node}
use Rattle.page_space.specs.Frames.{Frames}
use Rattle.btree_inplace.specs.Order.{get_in}
use Rattle.catalog_grammar.specs.CatalogBytes.{item_fits, item_key}
use Rattle.catalog_grammar.specs.declared.items.CatalogItem.{CatalogItem}
use Rattle.catalog_grammar.specs.CatalogSteps.{HasNodesThrough, Roots, has_index, has_nodes, item_of_column, item_of_index, item_of_table, nodes_of_catalog, without_items}
use Rattle.catalog_record.specs.CatalogTrees.{IsCatalogTree, nodes_in}
use Rattle.catalog_record.specs.declared.tree.CatalogTree.{CatalogTree}

-- The tree has the nodes of a catalog whose trees have these roots, and each of them can be written.
pub record HoldsCatalog (frames : Frames) (kept : CatalogTree) (roots : Roots) (catalog : CatalogState) : Type 0 where
  pub tree : IsCatalogTree frames kept
  pub nodes : nodes_in frames kept ≡ nodes_of_catalog roots catalog
  pub writable : has_nodes roots catalog ≡ true

-- The tree has the nodes of a catalog after a step, which may be taken back: those before it can be written, too.
pub record HoldsStep (frames : Frames) (kept : CatalogTree) (roots : Roots) (catalog : CatalogState) (made : SchemaStep) : Type 0 where
  pub tree : IsCatalogTree frames kept
  pub nodes : nodes_in frames kept ≡ nodes_of_catalog roots (catalog_after catalog made)
  pub through : HasNodesThrough roots catalog made

-- ---- what a step asks of the catalog

-- a new table, with the roots of its trees
pub record TakesTable (roots : Roots) (catalog : CatalogState) (table : TableId) (name : List ℕ) (records long_values : ℕ) : Type 0 where
  pub numbered : IsNumbered catalog
  pub new : IsTrue (has_new_id catalog (step.CreateTable table name))
  pub fits : item_fits (item_of_table roots (new_table table.0 name)) ≡ true
  pub records_root : (roots table.0).records ≡ records
  pub long_values_root : (roots table.0).long_values ≡ long_values

-- a new column of a table, with the greatest columns that the table has then
pub record TakesColumn (roots : Roots) (catalog : CatalogState) (t : Table) (column : Column) (greatest : GreatestColumns) (records long_values : ℕ) : Type 0 where
  pub there : table_with_id catalog.tables t.id ≡ Some t
  pub fits : item_fits (item_of_column t column) ≡ true
  pub new : has_column t column.id.0 ≡ false
  pub number : 0 < column.id.0
  pub greatest_is : (with_column column t).greatest ≡ greatest
  pub records_root : (roots t.id).records ≡ records
  pub long_values_root : (roots t.id).long_values ≡ long_values

-- a table of the catalog, with the roots of its trees
pub record HasTable (roots : Roots) (catalog : CatalogState) (t : Table) (records long_values : ℕ) : Type 0 where
  pub there : table_with_id catalog.tables t.id ≡ Some t
  pub records_root : (roots t.id).records ≡ records
  pub long_values_root : (roots t.id).long_values ≡ long_values

pub record HasColumn (catalog : CatalogState) (table : TableId) (column : ColumnId) : Type 0 where
  pub t : Table
  pub there : table_with_id catalog.tables table.0 ≡ Some t
  pub has : has_column t column.0 ≡ true

-- a new index of a table, with the root of its tree
pub record TakesIndex (roots : Roots) (catalog : CatalogState) (table : TableId) (root : ℕ) (rule : IndexRule) : Type 0 where
  pub t : Table
  pub there : table_with_id catalog.tables table.0 ≡ Some t
  pub fits : item_fits (item_of_index roots t rule) ≡ true
  pub new : has_index t rule.id.0 ≡ false
  pub number : 0 < rule.id.0
  pub root_is : (roots table.0).indexes rule.id.0 ≡ root

pub record HasIndex (catalog : CatalogState) (table : TableId) (index : IndexId) : Type 0 where
  pub t : Table
  pub there : table_with_id catalog.tables table.0 ≡ Some t
  pub has : has_index t index.0 ≡ true

-- ---- a table that goes

-- Each of a list has a node when those before it are gone.
abbrev pub GoOneByOne : {X : Type 0} → (X → CatalogItem) → List X → List Node → Type 0
GoOneByOne {X} named list nodes = (k : ℕ) (x : X) → k < length list → IsSome (get_in (without_items (map named (take k list)) nodes) (item_key (named (slice_index_or list k x))))
