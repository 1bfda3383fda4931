-- The tables of a catalog, with the roots of their trees, and the nodes that they have in a tree.
use Rattle.std.specs.Prelude.{ℕ, Bool, true, not, ◌&&◌, ◌||◌, List, [], ◌∷◌, ◌++◌, map, nat_lt, ◌==◌, if◌then◌else◌}
use Rattle.std.specs.List.{flat_map, list_all}
use Rattle.jet_base.specs.Ids.{table_id}
use Rattle.jet_base.specs.TypeKinds.{is_long_type}
use Rattle.column_set.specs.declared.columns.Column.{Column}
use Rattle.column_set.specs.RecordValues.{tagged_if_long}
use Rattle.index_derive.specs.declared.rules.IndexRule.{IndexRule}
use Rattle.database_state.specs.Table.{Table}
use Rattle.page_image.specs.Page.{Node}
use Rattle.catalog_grammar.specs.CatalogBytes.{item_fits, item_node}
use Rattle.catalog_grammar.specs.declared.items.CatalogItem.{CatalogItem}
use Rattle.catalog_grammar.specs.declared.items.CatalogItem.TheVariants as item
use Rattle.catalog_grammar.specs.declared.items.TableItem.{TableItem}

-- ---- tables with roots

-- The root pages of a table's trees: that of its records, that of its long values, and those of its indexes by their numbers.
pub record TableRoots : Type 0 where
  pub records : ℕ
  pub long_values : ℕ
  pub indexes : ℕ → ℕ

-- A table as the catalog keeps it: its columns by rising number, and its indexes, each behind its root, by rising number.
pub record CatalogTable : Type 0 where
  pub table : TableItem
  pub columns : List Column
  pub indexes : List (ℕ × IndexRule)

-- the indexes by rising number
abbrev pub with_number : IndexRule → List IndexRule → List IndexRule
with_number rule [] = rule ∷ []
with_number rule (other ∷ rules) = if nat_lt rule.id.0 other.id.0 then rule ∷ other ∷ rules else other ∷ with_number rule rules

abbrev pub by_number : List IndexRule → List IndexRule
by_number [] = []
by_number (rule ∷ rules) = with_number rule (by_number rules)

abbrev pub table_item : Table → TableRoots → TableItem
table_item table roots = record { id = table_id table.id; name = table.name; greatest = table.greatest; records = roots.records; long_values = roots.long_values }

abbrev pub catalog_table : Table × TableRoots → CatalogTable
catalog_table x = record { table = table_item x.0 x.1; columns = x.0.columns; indexes = map (λ rule. (x.1.indexes rule.id.0, rule)) (by_number x.0.indexes) }

-- ---- the nodes of a catalog

abbrev pub column_items : CatalogTable → List CatalogItem
column_items x = map (item.Column x.table.id) x.columns

abbrev pub index_items : CatalogTable → List CatalogItem
index_items x = map (λ index. item.Index x.table.id index.0 index.1) x.indexes

-- the greatest number that a table was ever given, the tables, the columns of all tables, and the indexes of all tables
abbrev pub catalog_items : ℕ → List CatalogTable → List CatalogItem
catalog_items greatest tables = item.Greatest greatest ∷ (map (λ x. item.Table x.table) tables ++ (flat_map column_items tables ++ flat_map index_items tables))

-- the nodes of a catalog, by rising key
abbrev pub catalog_nodes : ℕ → List CatalogTable → List Node
catalog_nodes greatest tables = map item_node (catalog_items greatest tables)

-- ---- which catalogs have nodes

-- whether numbers rise, from above the first one on
abbrev pub rise_above : ℕ → List ℕ → Bool
rise_above low [] = true
rise_above low (n ∷ numbers) = nat_lt low n && rise_above n numbers

-- whether the columns of a table have rising numbers, and its indexes too
abbrev pub has_rising_parts : CatalogTable → Bool
has_rising_parts x = rise_above 0 (map (λ column. column.id.0) x.columns) && rise_above 0 (map (λ index. index.1.id.0) x.indexes)

-- whether each item can be written, and tables, columns and indexes stand by rising number, from 1
abbrev pub catalog_fits : ℕ → List CatalogTable → Bool
catalog_fits greatest tables = list_all item_fits (catalog_items greatest tables) && (rise_above 0 (map (λ x. x.table.id.0) tables) && list_all has_rising_parts tables)

-- ---- the catalog that items tell

abbrev pub table_told : CatalogItem → List TableItem
table_told (item.Greatest greatest) = []
table_told (item.Table table) = table ∷ []
table_told (item.Column table column) = []
table_told (item.Index table root index) = []

-- the column, if it is one of this table
abbrev pub column_told : ℕ → CatalogItem → List Column
column_told id (item.Greatest greatest) = []
column_told id (item.Table table) = []
column_told id (item.Column table column) = if table.0 == id then column ∷ [] else []
column_told id (item.Index table root index) = []

-- the index behind its root, if it is one of this table
abbrev pub index_told : ℕ → CatalogItem → List (ℕ × IndexRule)
index_told id (item.Greatest greatest) = []
index_told id (item.Table table) = []
index_told id (item.Column table column) = []
index_told id (item.Index table root index) = if table.0 == id then (root, index) ∷ [] else []

-- the tables, each with the columns and the indexes that are told of it
abbrev pub tables_told : List CatalogItem → List CatalogTable
tables_told items = map (λ table. record { table = table; columns = flat_map (column_told table.id.0) items; indexes = flat_map (index_told table.id.0) items }) (flat_map table_told items)

-- ---- the catalog that a database has of it

-- the table with its columns as a table has them: a long one is tagged, also where its node does not say so
abbrev pub with_tagged_longs : CatalogTable → CatalogTable
with_tagged_longs x = record x { columns = map tagged_if_long x.columns }

-- whether each long column is tagged
abbrev pub has_tagged_longs : CatalogTable → Bool
has_tagged_longs x = list_all (λ column. column.tagged || not (is_long_type column.kind)) x.columns

-- the tables of the database whose catalog has these nodes
abbrev pub tables_of_items : List CatalogItem → List CatalogTable
tables_of_items items = map with_tagged_longs (tables_told items)
