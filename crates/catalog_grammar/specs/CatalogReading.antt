-- Reading the nodes of the catalog from left to right.
use Rattle.std.specs.Prelude.{ℕ, ◌&&◌, ◌==◌, cond, List, length, take, drop, nat_lt, Option, Some, None}
use Rattle.std.specs.Int.{Width, w16, w32, byte_len, from_be_bytes}
use Rattle.jet_base.specs.Ids.{table_id}
use Rattle.column_set.specs.NumberReading.{◌>>=◌, number_at}
use Rattle.index_derive.specs.declared.rules.Condition.{Condition}
use Rattle.index_derive.specs.declared.rules.IndexFlags.{IndexFlags}
use Rattle.index_derive.specs.declared.rules.IndexRule.{IndexRule}
use Rattle.index_derive.specs.declared.rules.Segment.{Segment}
use Rattle.database_state.specs.Table.{GreatestColumns}
use Rattle.log_grammar.specs.EntryReading.{both, changed, tested, byte_at, column_at, conditions_at, flags_of, index_of, name_at, segments_at}
use Rattle.catalog_grammar.specs.declared.items.CatalogItem.{CatalogItem}
use Rattle.catalog_grammar.specs.declared.items.CatalogItem.TheVariants as item
use Rattle.catalog_grammar.specs.declared.items.TableItem.{TableItem}

-- ---- keys

-- a number, the highest byte first
abbrev pub high_number_at : Width → List ℕ → Option (ℕ × List ℕ)
high_number_at w bytes = cond (nat_lt (length bytes) (byte_len w)) None (Some (from_be_bytes w (take (byte_len w) bytes), drop (byte_len w) bytes))

-- the kind, the table and the column or index
unfoldable pub key_at : List ℕ → Option ((ℕ × (ℕ × ℕ)) × List ℕ)
key_at bytes = both byte_at (λ kind. both (high_number_at w32) (λ table. high_number_at w16)) bytes

-- ---- data

-- the greatest fixed, variable and tagged columns
abbrev pub greatest_of : ℕ × (ℕ × ℕ) → GreatestColumns
greatest_of x = record { fixed = x.0; variable = x.1.0; tagged = x.1.1 }

unfoldable pub greatest_at : List ℕ → Option (GreatestColumns × List ℕ)
greatest_at bytes = changed greatest_of (both (number_at w16) (λ fixed. both (number_at w16) (λ variable. number_at w16))) bytes

abbrev pub table_of : ℕ → ℕ × (ℕ × (GreatestColumns × List ℕ)) → TableItem
table_of table x = record { id = table_id table; name = x.1.1.1; greatest = x.1.1.0; records = x.0; long_values = x.1.0 }

unfoldable pub table_at : ℕ → List ℕ → Option (TableItem × List ℕ)
table_at table bytes = changed (table_of table) (both (number_at w32) (λ records. both (number_at w32) (λ long_values. both greatest_at (λ greatest. name_at)))) bytes

-- the flags of an index
unfoldable pub index_flags_at : List ℕ → Option (IndexFlags × List ℕ)
index_flags_at bytes = changed flags_of (tested (λ flags. nat_lt flags 1024) (number_at w16)) bytes

abbrev pub rooted_index_of : ℕ → ℕ × (ℕ × (IndexFlags × (List Segment × (List Condition × List ℕ)))) → ℕ × IndexRule
rooted_index_of id x = (x.0, index_of id ((x.1.0, x.1.1.0), x.1.1.1))

-- an index with its root
unfoldable pub rooted_index_at : ℕ → List ℕ → Option ((ℕ × IndexRule) × List ℕ)
rooted_index_at id bytes =
    changed (rooted_index_of id)
    (both (number_at w32) (λ root. both (number_at w32) (λ order. both index_flags_at (λ flags. both segments_at (λ segments. both conditions_at (λ conditions. name_at)))))) bytes

-- ---- nodes

-- what was read, where nothing stands behind it
abbrev pub whole : {A : Type 0} → Option (A × List ℕ) → Option A
whole read = read >>= λ x. cond (length x.1 == 0) (Some x.0) None

-- what the data of a node says, by its kind, its table and its column or index
unfoldable pub item_of : ℕ → ℕ → ℕ → List ℕ → Option CatalogItem
item_of kind table id bytes =
    cond (kind == 0) (cond ((table == 0) && (id == 0)) (whole (changed (λ greatest. item.Greatest greatest) (number_at w32) bytes)) None)
    (cond (kind == 1) (cond (id == 0) (whole (changed (λ table. item.Table table) (table_at table) bytes)) None)
    (cond (kind == 2) (whole (changed (λ column. item.Column (table_id table) column) (column_at id) bytes))
    (cond (kind == 3) (whole (changed (λ index. item.Index (table_id table) index.0 index.1) (rooted_index_at id) bytes)) None)))

-- the item that a node tells
unfoldable pub item_at : List ℕ → List ℕ → Option CatalogItem
item_at key bytes = whole (key_at key) >>= λ key. item_of key.0 key.1.0 key.1.1 bytes
