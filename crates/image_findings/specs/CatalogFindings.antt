-- The catalog that the nodes of its tree tell, and the rules that it keeps.
use Rattle.std.specs.Prelude.{ℕ, Bool, true, false, not, ◌&&◌, ◌==◌, nat_le, nat_lt, bytes_eq, List, [], ◌∷◌, ◌++◌, length, map, filter, Option, Some, None, if◌then◌else◌}
use Rattle.std.specs.List.{list_all, list_any}
use Rattle.page_image.specs.Page.{Node}
use Rattle.column_set.specs.NumberReading.{◌>>=◌}
use Rattle.column_set.specs.declared.columns.Column.{Column}
use Rattle.index_derive.specs.declared.rules.IndexRule.{IndexRule}
use Rattle.database_state.specs.Table.{Table}
use Rattle.catalog_grammar.specs.CatalogReading.{item_at}
use Rattle.catalog_grammar.specs.Catalogs.{CatalogTable, catalog_fits, catalog_nodes, tables_of_items, tables_told}
use Rattle.catalog_grammar.specs.declared.items.CatalogItem.{CatalogItem}
use Rattle.catalog_grammar.specs.declared.items.CatalogItem.TheVariants as item
use Rattle.laws_engine.specs.ColumnNumbers.{has_own_numbers}
use Rattle.laws_images.specs.SoundStates.{is_sound_column, is_sound_index}

-- ---- nodes

abbrev pub is_same_node : Node → Node → Bool
is_same_node n other = bytes_eq n.key other.key && ((n.extent == other.extent) && bytes_eq n.data other.data)

abbrev pub are_same_nodes : List Node → List Node → Bool
are_same_nodes [] [] = true
are_same_nodes (n ∷ nodes) (other ∷ others) = is_same_node n other && are_same_nodes nodes others
are_same_nodes _ _ = false

-- ---- what the nodes tell

-- the items of all nodes, none where a node tells none
abbrev pub items_in : List Node → Option (List CatalogItem)
items_in [] = Some []
items_in (n ∷ nodes) = item_at n.key n.data >>= λ told. items_in nodes >>= λ items. Some (told ∷ items)

abbrev pub greatest_told : List CatalogItem → Option ℕ
greatest_told (item.Greatest greatest ∷ items) = Some greatest
greatest_told _ = None

-- a catalog: the greatest id that a table was ever given, and the tables with their roots
pub record CatalogTold : Type 0 where
  pub greatest : ℕ
  pub tables : List CatalogTable

-- The catalog of these items, where it can be written and has these very nodes. A long column is tagged, also where its node does not
-- say so.
abbrev pub told_by : List Node → List CatalogItem → Option CatalogTold
told_by nodes items = greatest_told items >>= λ greatest.
    if catalog_fits greatest (tables_told items) && are_same_nodes (catalog_nodes greatest (tables_told items)) nodes then Some (record { greatest = greatest; tables = tables_of_items items }) else None

abbrev pub catalog_told : List Node → Option CatalogTold
catalog_told nodes = items_in nodes >>= λ items. told_by nodes items

-- ---- its tables

-- the indexes in their order of making
abbrev pub with_order : IndexRule → List IndexRule → List IndexRule
with_order rule [] = rule ∷ []
with_order rule (other ∷ rules) = if nat_lt rule.order other.order then rule ∷ other ∷ rules else other ∷ with_order rule rules

abbrev pub in_order_of_making : List IndexRule → List IndexRule
in_order_of_making [] = []
in_order_of_making (rule ∷ rules) = with_order rule (in_order_of_making rules)

-- a table without records
abbrev pub table_of : CatalogTable → Table
table_of x = record { id = x.table.id.0; name = x.table.name; columns = x.columns; indexes = in_order_of_making (map (λ index. index.1) x.indexes); greatest = x.table.greatest; rows = [] }

-- the indexes that have a tree, each behind its root, by rising number
abbrev pub rooted_indexes : CatalogTable → List (ℕ × IndexRule)
rooted_indexes x = filter (λ index. not index.1.flags.primary) x.indexes

-- the roots of the trees of a table: its records, its indexes, and its long values
abbrev pub roots_of : CatalogTable → List ℕ
roots_of x = x.table.records ∷ (map (λ index. index.0) (rooted_indexes x) ++ x.table.long_values ∷ [])

-- ---- rules of a catalog

-- whether no two of a list are the same
abbrev pub differ : {X : Type 0} → (X → X → Bool) → List X → Bool
differ same [] = true
differ same (x ∷ xs) = not (list_any (same x) xs) && differ same xs

-- the columns are sound, each with a name of its own
abbrev pub has_sound_columns : Table → Bool
has_sound_columns table = list_all is_sound_column table.columns && differ (λ (c d : Column). bytes_eq c.name d.name) table.columns

-- The indexes are sound, each with a name and an order of making of its own; there are 64 at most, and one primary index at most.
abbrev pub has_sound_indexes : Table → Bool
has_sound_indexes table =
    list_all (is_sound_index table) table.indexes
    && ((differ (λ (r s : IndexRule). bytes_eq r.name s.name) table.indexes && differ (λ (r s : IndexRule). r.order == s.order) table.indexes)
    && (nat_le (length table.indexes) 64 && nat_le (length (filter (λ (r : IndexRule). r.flags.primary) table.indexes)) 1))

-- each column has a number that was given, and one of its own
abbrev pub is_sound_table : Table → Bool
is_sound_table table = has_own_numbers table && (has_sound_columns table && has_sound_indexes table)

-- no table has an id above the greatest
abbrev pub are_given : ℕ → List Table → Bool
are_given greatest tables = list_all (λ (t : Table). nat_le t.id greatest) tables

-- there are 64 tables at most, each with a name of its own
abbrev pub have_own_names : List Table → Bool
have_own_names tables = nat_le (length tables) 64 && differ (λ (t u : Table). bytes_eq t.name u.name) tables

abbrev pub is_sound_catalog : ℕ → List Table → Bool
is_sound_catalog greatest tables = have_own_names tables && (are_given greatest tables && list_all is_sound_table tables)
