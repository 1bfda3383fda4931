-- The nodes of a catalog before a schema step and after it, given the root pages of its trees.
use Rattle.std.specs.Prelude.{◌≡◌, ℕ, ◌==◌, Bool, true, List, [], ◌∷◌, map, All}
use Rattle.std.specs.List.{list_any}
use Rattle.jet_base.specs.Ids.{table_id}
use Rattle.column_set.specs.declared.columns.Column.{Column}
use Rattle.index_derive.specs.declared.rules.IndexRule.{IndexRule}
use Rattle.index_derive.specs.declared.schema_calls.SchemaStep.{SchemaStep}
use Rattle.database_state.specs.Table.{Table}
use Rattle.jet_catalog.specs.Catalog.{CatalogState, catalog_after}
use Rattle.page_image.specs.Page.{Node}
use Rattle.btree_inplace.specs.Changes.{without_key}
use Rattle.catalog_grammar.specs.CatalogBytes.{item_key}
use Rattle.catalog_grammar.specs.Catalogs.{CatalogTable, TableRoots, catalog_fits, catalog_nodes, catalog_table, table_item}
use Rattle.catalog_grammar.specs.declared.items.CatalogItem.{CatalogItem}
use Rattle.catalog_grammar.specs.declared.items.CatalogItem.TheVariants as item

-- ---- catalogs with roots

-- The root pages of the trees of each table, by its number.
abbrev pub Roots : Type 0
Roots = ℕ → TableRoots

-- a table as the catalog keeps it
abbrev pub rooted : Roots → Table → CatalogTable
rooted roots table = catalog_table (table, roots table.id)

abbrev pub rooted_tables : Roots → List Table → List CatalogTable
rooted_tables roots tables = map (rooted roots) tables

-- the nodes of a catalog, by rising key
abbrev pub nodes_of_catalog : Roots → CatalogState → List Node
nodes_of_catalog roots catalog = catalog_nodes catalog.greatest_table (rooted_tables roots catalog.tables)

-- whether each of them can be written, and tables, columns and indexes stand by rising number, from 1
abbrev pub has_nodes : Roots → CatalogState → Bool
has_nodes roots catalog = catalog_fits catalog.greatest_table (rooted_tables roots catalog.tables)

-- The catalog has nodes before a step and after it.
pub record HasNodesThrough (roots : Roots) (catalog : CatalogState) (step : SchemaStep) : Type 0 where
  pub before : has_nodes roots catalog ≡ true
  pub after : has_nodes roots (catalog_after catalog step) ≡ true

-- Both give a table the same roots of its own trees.
pub record HasSameRoots (one other : Roots) (table : Table) : Type 0 where
  pub records : (one table.id).records ≡ (other table.id).records
  pub long_values : (one table.id).long_values ≡ (other table.id).long_values
  pub indexes : All (λ rule. (one table.id).indexes rule.id.0 ≡ (other table.id).indexes rule.id.0) table.indexes

-- ---- the items of a table

abbrev pub item_of_table : Roots → Table → CatalogItem
item_of_table roots table = item.Table (table_item table (roots table.id))

abbrev pub item_of_column : Table → Column → CatalogItem
item_of_column table column = item.Column (table_id table.id) column

abbrev pub item_of_index : Roots → Table → IndexRule → CatalogItem
item_of_index roots table rule = item.Index (table_id table.id) ((roots table.id).indexes rule.id.0) rule

-- whether an index of a table has this number
abbrev pub has_index : Table → ℕ → Bool
has_index table index = list_any (λ made. made.id.0 == index) table.indexes

-- ---- nodes that go

-- the nodes without those of some items, one after the other
abbrev pub without_items : List CatalogItem → List Node → List Node
without_items [] nodes = nodes
without_items (x ∷ items) nodes = without_items items (without_key nodes (item_key x))

-- the items of a table's indexes, in their order of making, and of its columns
abbrev pub items_of_indexes : Roots → Table → List IndexRule → List CatalogItem
items_of_indexes roots table rules = map (item_of_index roots table) rules

abbrev pub items_of_columns : Table → List Column → List CatalogItem
items_of_columns table columns = map (item_of_column table) columns

-- the nodes of a catalog without those of a table's indexes, and without those of its columns either
abbrev pub without_indexes : Roots → CatalogState → Table → List Node
without_indexes roots catalog table = without_items (items_of_indexes roots table table.indexes) (nodes_of_catalog roots catalog)

abbrev pub without_parts : Roots → CatalogState → Table → List Node
without_parts roots catalog table = without_items (items_of_columns table table.columns) (without_indexes roots catalog table)
