-- A long column that is tagged has its number, and counts as one: so numbers and counts of told tables are those of their nodes.
use Rattle.std.proofs.Common.{◌≡◌, ℕ, suc, ◌+◌, ◌-◌, List, [], ◌∷◌, ◌++◌, length, map, refl, ap, arith}
use Rattle.std.specs.Prelude.{◌==◌, ◌&&◌, nat_le}
use Rattle.std.specs.List.{flat_map, list_all}
use Rattle.std.proofs.lemmas.Bool.Decides.{nat_tests}
use Rattle.std.proofs.lemmas.List.{length-append, length-map}
use Rattle.column_set.specs.declared.columns.Column.{Column}
use Rattle.column_set.specs.RecordValues.{tagged_if_long}
use Rattle.index_derive.specs.declared.rules.IndexRule.{IndexRule}
use Rattle.catalog_grammar.specs.Catalogs.{CatalogTable, catalog_items, column_items, has_rising_parts, index_items, rise_above, with_tagged_longs}
use Rattle.catalog_grammar.specs.declared.items.CatalogItem.{CatalogItem}
use Rattle.catalog_grammar.specs.declared.items.CatalogItem.TheVariants as item
use Rattle.image_opening.specs.ReadNodes.{left_after}

abbrev column_numbers : List Column → List ℕ
column_numbers columns = map (λ column. column.id.0) columns

same_numbers : (columns : List Column) → column_numbers (map tagged_if_long columns) ≡ column_numbers columns
same_numbers [] = refl
same_numbers (c ∷ columns) = ap (λ (l : List ℕ). c.id.0 ∷ l) (same_numbers columns)

same_count : (columns : List Column) → length (map tagged_if_long columns) ≡ length columns
same_count [] = refl
same_count (c ∷ columns) = ap suc (same_count columns)

pub numbers_tagged : (tables : List CatalogTable) → map (λ (x : CatalogTable). x.table.id.0) (map with_tagged_longs tables) ≡ map (λ (x : CatalogTable). x.table.id.0) tables
numbers_tagged [] = refl
numbers_tagged (x ∷ tables) = ap (λ (l : List ℕ). x.table.id.0 ∷ l) (numbers_tagged tables)

parts_of_one : (x : CatalogTable) → has_rising_parts (with_tagged_longs x) ≡ has_rising_parts x
parts_of_one x = ap (λ (l : List ℕ). rise_above 0 l && rise_above 0 (map (λ index. index.1.id.0) x.indexes)) (same_numbers x.columns)

pub parts_tagged : (tables : List CatalogTable) → list_all has_rising_parts (map with_tagged_longs tables) ≡ list_all has_rising_parts tables
parts_tagged [] = refl
parts_tagged (x ∷ tables) = λ i. parts_of_one x i && parts_tagged tables i

-- ---- counts

column_count : (tables : List CatalogTable) → length (flat_map column_items (map with_tagged_longs tables)) ≡ length (flat_map column_items tables)
column_count [] = refl
column_count (x ∷ tables) =
    omega (
      arith,
      length-append (column_items (with_tagged_longs x)) (flat_map column_items (map with_tagged_longs tables)),
      length-append (column_items x) (flat_map column_items tables),
      column_count tables,
      length-map (map tagged_if_long x.columns) (item.Column x.table.id),
      length-map x.columns (item.Column x.table.id),
      same_count x.columns,
    )

index_count : (tables : List CatalogTable) → length (flat_map index_items (map with_tagged_longs tables)) ≡ length (flat_map index_items tables)
index_count [] = refl
index_count (x ∷ tables) =
    omega (arith, length-append (index_items x) (flat_map index_items (map with_tagged_longs tables)), length-append (index_items x) (flat_map index_items tables), index_count tables)

abbrev table_item : CatalogTable → CatalogItem
table_item x = item.Table x.table

item_count : (greatest : ℕ) (tables : List CatalogTable) → length (catalog_items greatest tables) ≡ suc (length tables + (length (flat_map column_items tables) + length (flat_map index_items tables)))
item_count greatest tables =
    omega (arith, length-append (map table_item tables) (flat_map column_items tables ++ flat_map index_items tables), length-map tables table_item, length-append (flat_map column_items tables) (flat_map index_items tables))

pub count_tagged : (greatest : ℕ) (tables : List CatalogTable) → length (catalog_items greatest (map with_tagged_longs tables)) ≡ length (catalog_items greatest tables)
count_tagged greatest tables =
    omega (arith, item_count greatest (map with_tagged_longs tables), item_count greatest tables, length-map tables with_tagged_longs, column_count tables, index_count tables)

-- what is left of a count
left_is : (tables : List CatalogTable) (left : ℕ) → left_after left tables ≡ left - (length (flat_map column_items tables) + length (flat_map index_items tables))
left_is [] left = omega arith
left_is (x ∷ tables) left =
    omega (
      arith,
      left_is tables ((left - length x.columns) - length x.indexes),
      length-append (column_items x) (flat_map column_items tables),
      length-append (index_items x) (flat_map index_items tables),
      length-map x.columns (item.Column x.table.id),
      length-map x.indexes (λ (index : ℕ × IndexRule). item.Index x.table.id index.0 index.1),
    )

pub tells_enough : (greatest count : ℕ) (tables : List CatalogTable) (behind left : ℕ) → behind ≡ (count - 1) - length tables → left ≡ left_after behind tables → (left == 0) ≡ nat_le count (length (catalog_items greatest tables))
tells_enough greatest count tables behind left so is = decided left count (length (catalog_items greatest tables)) (omega (arith, so, is, left_is tables behind, item_count greatest tables))
  where
    decided : (left count all : ℕ) → left ≡ count - all → (left == 0) ≡ nat_le count all
    decided left count all e = grind (arith, nat_tests, e)
