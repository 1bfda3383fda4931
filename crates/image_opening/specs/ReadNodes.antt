-- What was read of the nodes of a catalog.
use Rattle.std.specs.Prelude.{◌≡◌, ℕ, ◌-◌, ◌&&◌, Bool, true, false, nat_le, List, [], ◌∷◌, ◌++◌, length, map}
use Rattle.std.specs.List.{AllByRecursion, flat_map, list_all}
use Rattle.catalog_grammar.specs.CatalogBytes.{item_fits, item_node}
use Rattle.catalog_grammar.specs.declared.items.CatalogItem.{CatalogItem}
use Rattle.catalog_grammar.specs.declared.items.CatalogItem.TheVariants as item
use Rattle.catalog_grammar.specs.Catalogs.{CatalogTable, catalog_items, column_told, has_rising_parts, index_told, rise_above, with_tagged_longs}
use Rattle.catalog_grammar.specs.declared.items.TableItem.{TableItem}
use Rattle.catalog_record.specs.declared.fault.CatalogFault.{CatalogFault}
use Rattle.catalog_record.specs.declared.fault.CatalogFault.TheVariants as fault
use Rattle.page_image.specs.Page.{Node}

-- Behind the items before stand those of all nodes, each of which is the node of its item.
pub record ReadsNodes (nodes : List Node) (before after : List CatalogItem) : Type 0 where
  pub told : List CatalogItem
  pub items : after ≡ before ++ told
  pub nodes_are : nodes ≡ map item_node told
  pub fit : list_all item_fits told ≡ true

-- a node is one that an item has
abbrev pub IsItemNode : Node → Type 0
IsItemNode n = (x : CatalogItem) × (item_fits x ≡ true) × (n ≡ item_node x)

-- Not each of the nodes is one of an item. Want of memory tells nothing.
abbrev pub TellsNoItem : List Node → CatalogFault → Type 0
TellsNoItem nodes fault.BadNode = ¬ AllByRecursion IsItemNode nodes
TellsNoItem nodes fault.OutOfMemory = Unit {0}

-- a table with what items tell of it, and as a database has it: a long column is tagged
abbrev pub bare_of : List CatalogItem → TableItem → CatalogTable
bare_of items table = record { table = table; columns = flat_map (column_told table.id.0) items; indexes = flat_map (index_told table.id.0) items }

abbrev pub told_of : List CatalogItem → TableItem → CatalogTable
told_of items table = with_tagged_longs (bare_of items table)

-- ---- how many items are told

abbrev pub is_table : CatalogItem → Bool
is_table (item.Greatest greatest) = false
is_table (item.Table table) = true
is_table (item.Column table column) = false
is_table (item.Index table root index) = false

-- what is left of a count once the columns and the indexes of tables are taken from it
abbrev pub left_after : ℕ → List CatalogTable → ℕ
left_after left [] = left
left_after left (x ∷ tables) = left_after ((left - length x.columns) - length x.indexes) tables

-- Whether the numbers of tables rise from 1, and those of the columns and of the indexes of each do, and their catalog has at least so
-- many items.
abbrev pub are_whole : ℕ → ℕ → List CatalogTable → Bool
are_whole greatest count tables = rise_above 0 (map (λ (x : CatalogTable). x.table.id.0) tables) && (list_all has_rising_parts tables && nat_le count (length (catalog_items greatest tables)))
