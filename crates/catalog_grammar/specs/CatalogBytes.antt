-- The bytes of the catalog's nodes. Numbers stand highest byte first in keys, so that keys rise with them, and lowest byte first in data.
use Rattle.std.specs.Prelude.{◌≡◌, ℕ, ◌^◌, Bool, ◌&&◌, List, ◌∷◌, ◌++◌, length, nat_lt, IsTrue}
use Rattle.std.specs.Int.{w16, w32, to_be_bytes, to_le_bytes}
use Rattle.std.specs.List.{flat_map}
use Rattle.index_derive.specs.declared.rules.IndexRule.{IndexRule}
use Rattle.database_state.specs.Table.{GreatestColumns}
use Rattle.page_image.specs.Page.{Node}
use Rattle.log_grammar.specs.EntryBytes.{column_bytes, column_fits, condition_bytes, index_fits, index_flags, name_bytes, name_fits, segment_bytes}
use Rattle.catalog_grammar.specs.declared.items.CatalogItem.{CatalogItem}
use Rattle.catalog_grammar.specs.declared.items.CatalogItem.TheVariants as item
use Rattle.catalog_grammar.specs.declared.items.TableItem.{TableItem}

-- ---- keys

-- a kind, a table, and a column or an index of it
abbrev pub catalog_key : ℕ → ℕ → ℕ → List ℕ
catalog_key kind table id = kind ∷ (to_be_bytes w32 table ++ to_be_bytes w16 id)

-- the kinds are numbered from 0: the greatest table, tables, columns, indexes
abbrev pub item_kind : CatalogItem → ℕ
item_kind (item.Greatest greatest) = 0
item_kind (item.Table table) = 1
item_kind (item.Column table column) = 2
item_kind (item.Index table root index) = 3

abbrev pub item_table : CatalogItem → ℕ
item_table (item.Greatest greatest) = 0
item_table (item.Table table) = table.id.0
item_table (item.Column table column) = table.0
item_table (item.Index table root index) = table.0

abbrev pub item_id : CatalogItem → ℕ
item_id (item.Greatest greatest) = 0
item_id (item.Table table) = 0
item_id (item.Column table column) = column.id.0
item_id (item.Index table root index) = index.id.0

abbrev pub item_key : CatalogItem → List ℕ
item_key x = catalog_key (item_kind x) (item_table x) (item_id x)

-- ---- data

-- the roots of its records and of its long values, the greatest fixed, variable and tagged columns that it ever gave, and its name
unfoldable pub table_data : TableItem → List ℕ
table_data table =
    to_le_bytes w32 table.records ++ (to_le_bytes w32 table.long_values ++ (to_le_bytes w16 table.greatest.fixed
    ++ (to_le_bytes w16 table.greatest.variable ++ (to_le_bytes w16 table.greatest.tagged ++ name_bytes table.name))))

-- its root, its order of making, its flags, a count and its segments, a count and its conditions, and its name
unfoldable pub index_data : ℕ → IndexRule → List ℕ
index_data root index =
    to_le_bytes w32 root ++ (to_le_bytes w32 index.order ++ (to_le_bytes w16 (index_flags index.flags)
    ++ ((length index.segments ∷ flat_map segment_bytes index.segments) ++ ((length index.conditions ∷ flat_map condition_bytes index.conditions) ++ name_bytes index.name))))

-- a column is spelled as where it is added in the log
abbrev pub item_data : CatalogItem → List ℕ
item_data (item.Greatest greatest) = to_le_bytes w32 greatest
item_data (item.Table table) = table_data table
item_data (item.Column table column) = column_bytes column
item_data (item.Index table root index) = index_data root index

-- a page keeps as many bytes for the data as it has
abbrev pub catalog_node : List ℕ → List ℕ → Node
catalog_node key bytes = record { key = key; extent = length bytes; «data» = bytes }

abbrev pub item_node : CatalogItem → Node
item_node x = catalog_node (item_key x) (item_data x)

-- ---- which items have a spelling

abbrev pub greatest_fits : GreatestColumns → Bool
greatest_fits greatest = nat_lt greatest.fixed (2 ^ 16) && (nat_lt greatest.variable (2 ^ 16) && nat_lt greatest.tagged (2 ^ 16))

abbrev pub table_fits : TableItem → Bool
table_fits table = nat_lt table.id.0 (2 ^ 32) && (nat_lt table.records (2 ^ 32) && (nat_lt table.long_values (2 ^ 32) && (greatest_fits table.greatest && name_fits table.name)))

-- whether each field has the bytes for it, and a name 1 to 64
abbrev pub item_fits : CatalogItem → Bool
item_fits (item.Greatest greatest) = nat_lt greatest (2 ^ 32)
item_fits (item.Table table) = table_fits table
item_fits (item.Column table column) = nat_lt table.0 (2 ^ 32) && column_fits column
item_fits (item.Index table root index) = nat_lt table.0 (2 ^ 32) && (nat_lt root (2 ^ 32) && index_fits index)

-- The node of this key and this data tells the item.
abbrev pub Tells : List ℕ → List ℕ → CatalogItem → Type 0
Tells key bytes x = IsTrue (item_fits x) × (key ≡ item_key x) × (bytes ≡ item_data x)
