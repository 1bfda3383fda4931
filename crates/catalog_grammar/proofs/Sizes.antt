-- How many bytes nodes have.
use Rattle.std.proofs.Common.{◌≡◌, ℕ, ◌*◌, ◌^◌, ◌≤◌, true, ltb, leb, ◌&&◌, List, [], ◌∷◌, ◌++◌, length, refl, arith}
use Rattle.std.specs.List.{flat_map}
use Rattle.std.proofs.lemmas.Bool.{and_parts, leb-true}
use Rattle.std.proofs.lemmas.List.{length-append}
use Rattle.index_derive.specs.declared.rules.Condition.{Condition}
use Rattle.index_derive.specs.declared.rules.IndexRule.{IndexRule}
use Rattle.index_derive.specs.declared.rules.Segment.{Segment}
use Rattle.page_image.specs.Page.{node_size}
use Rattle.log_grammar.specs.EntryBytes.{column_fits, condition_bytes, index_fits, name_bytes, name_fits, segment_bytes}
use Rattle.log_grammar.proofs.Fits.{column_name, index_parts}
use Rattle.catalog_grammar.specs.CatalogBytes.{greatest_fits, index_data, item_data, item_fits, item_node, table_data, table_fits}
use Rattle.catalog_grammar.specs.declared.items.CatalogItem.{CatalogItem}
use Rattle.catalog_grammar.specs.declared.items.CatalogItem.TheVariants as item
use Rattle.catalog_grammar.specs.declared.items.TableItem.{TableItem}

segments_length : (segments : List Segment) → length (flat_map segment_bytes segments) ≡ 3 * length segments
segments_length [] = refl
segments_length (x ∷ xs) = omega (arith, length-append (segment_bytes x) (flat_map segment_bytes xs), segments_length xs)

conditions_length : (conditions : List Condition) → length (flat_map condition_bytes conditions) ≡ 3 * length conditions
conditions_length [] = refl
conditions_length (x ∷ xs) = omega (arith, length-append (condition_bytes x) (flat_map condition_bytes xs), conditions_length xs)

name_small : (name : List ℕ) → name_fits name ≡ true → length name ≤ 64
name_small name h = leb-true _ _ (and_parts (leb 1 (length name)) (leb (length name) 64) h).1

table_name : (table : TableItem) → table_fits table ≡ true → name_fits table.name ≡ true
table_name table h =
    let a = and_parts (ltb table.id.0 (2 ^ 32)) (ltb table.records (2 ^ 32) && (ltb table.long_values (2 ^ 32) && (greatest_fits table.greatest && name_fits table.name))) h in
    let b = and_parts (ltb table.records (2 ^ 32)) (ltb table.long_values (2 ^ 32) && (greatest_fits table.greatest && name_fits table.name)) a.1 in
    let c = and_parts (ltb table.long_values (2 ^ 32)) (greatest_fits table.greatest && name_fits table.name) b.1 in
    (and_parts (greatest_fits table.greatest) (name_fits table.name) c.1).1

index_length : (root : ℕ) (index : IndexRule) → index_fits index ≡ true → length (index_data root index) ≤ 1607
unfolding index_data
index_length root index h =
    let p = index_parts index h in
    let name = name_small index.name p.name in
    omega (arith, length-append (flat_map segment_bytes index.segments) ((length index.conditions ∷ flat_map condition_bytes index.conditions) ++ name_bytes index.name), length-append (flat_map condition_bytes index.conditions) (name_bytes index.name), segments_length index.segments, conditions_length index.conditions, name, p.segment_count, p.condition_count)

table_length : (table : TableItem) → table_fits table ≡ true → length (table_data table) ≤ 1607
unfolding table_data
table_length table h = let name = name_small table.name (table_name table h) in omega arith

pub data_length : (x : CatalogItem) → item_fits x ≡ true → length (item_data x) ≤ 1607
data_length (item.Greatest greatest) h = omega arith
data_length (item.Table table) h = table_length table h
data_length (item.Column table column) h =
    let name = name_small column.name (column_name column (and_parts (ltb table.0 (2 ^ 32)) (column_fits column) h).1) in
    omega arith
data_length (item.Index table root index) h =
    index_length root index (and_parts (ltb root (2 ^ 32)) (index_fits index) (and_parts (ltb table.0 (2 ^ 32)) (ltb root (2 ^ 32) && index_fits index) h).1).1

pub size_of_node : (x : CatalogItem) → item_fits x ≡ true → node_size (item_node x) ≤ 1620
size_of_node x h = let most = data_length x h in omega arith
