-- The nodes of a catalog as the engine keeps them: each long column is tagged, and a primary index has the root 0.
use Rattle.std.specs.Prelude.{◌≡◌, true, List, [], ◌∷◌, ◌++◌, Some, length, if◌then◌else◌}
use Rattle.std.specs.List.{AllByRecursion, flat_map}
use Rattle.jet_base.specs.Ids.{table_id}
use Rattle.jet_base.specs.TypeKinds.{is_long_type}
use Rattle.jet_base.specs.declared.ids.TableId.{TableId}
use Rattle.column_set.specs.declared.columns.Column.{Column}
use Rattle.index_derive.specs.declared.rules.IndexRule.{IndexRule}
use Rattle.database_state.specs.Table.{Table}
use Rattle.page_image.specs.Page.{Node}
use Rattle.btree_inplace.specs.Changes.{with_data_at}
use Rattle.btree_inplace.specs.Order.{extent_in}
use Rattle.catalog_grammar.specs.CatalogBytes.{item_data, item_fits, item_key}
use Rattle.catalog_grammar.specs.declared.items.CatalogItem.{CatalogItem}
use Rattle.catalog_grammar.specs.declared.items.CatalogItem.TheVariants as item

-- the items of a table that another writer may spell otherwise, as the engine keeps them: its long columns, and its primary index
abbrev pub column_again : TableId → Column → List CatalogItem
column_again table column = if is_long_type column.kind then item.Column table column ∷ [] else []

abbrev pub index_again : TableId → IndexRule → List CatalogItem
index_again table rule = if rule.flags.primary then item.Index table 0 rule ∷ [] else []

abbrev pub items_again : Table → List CatalogItem
items_again table = flat_map (column_again (table_id table.id)) table.columns ++ flat_map (index_again (table_id table.id)) table.indexes

-- the nodes with the data of some items, one after the other
abbrev pub with_items : List CatalogItem → List Node → List Node
with_items [] nodes = nodes
with_items (x ∷ items) nodes = with_items items (with_data_at nodes (item_key x) (item_data x))

-- Each of these items can be written, and has a node with room for just its data.
pub record HasRoom (nodes : List Node) (x : CatalogItem) : Type 0 where
  pub fits : item_fits x ≡ true
  pub room : extent_in nodes (item_key x) ≡ Some (length (item_data x))

abbrev pub HaveRoom : List Node → List CatalogItem → Type 0
HaveRoom nodes items = AllByRecursion (HasRoom nodes) items
