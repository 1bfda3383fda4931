-- What is found of nodes that tell no catalog, or one of more than 64 tables.
use Rattle.std.proofs.Common.{◌≡◌, ℕ, suc, ◌<◌, ◌≤◌, Bool, true, false, Option, Some, None, List, [], ◌∷◌, length, map, refl, sym, ap, subst, ◌∙◌, arith}
use Rattle.std.specs.Prelude.{◌&&◌, bytes_eq, filter, nat_le, nat_lt, if◌then◌else◌}
use Rattle.std.specs.List.{AllByRecursion, flat_map, list_all}
use Rattle.std.proofs.lemmas.Bool.Decides.{nat_tests}
use Rattle.common_lemmas.proofs.Booleans.{and_left, and_right}
use Rattle.common_lemmas.proofs.Options.{none_some, same_some}
use Rattle.database_state.specs.Table.{Table}
use Rattle.column_set.specs.NumberReading.{◌>>=◌}
use Rattle.page_image.specs.Page.{Node}
use Rattle.catalog_grammar.specs.CatalogBytes.{item_fits, item_node}
use Rattle.catalog_grammar.specs.Catalogs.{CatalogTable, catalog_fits, catalog_nodes, table_told, tables_of_items, tables_told, with_tagged_longs}
use Rattle.catalog_grammar.specs.declared.items.CatalogItem.{CatalogItem}
use Rattle.catalog_grammar.specs.declared.items.CatalogItem.TheVariants as item
use Rattle.catalog_grammar.specs.declared.items.TableItem.{TableItem}
use Rattle.image_findings.specs.CatalogFindings.{CatalogTold, are_given, are_same_nodes, catalog_told, differ, greatest_told, is_sound_catalog, is_sound_table, table_of, told_by}
use Rattle.image_findings.specs.Images.Finding.{Catalog}
use Rattle.image_opening.specs.OpenedCatalogs.{told_finding}
use Rattle.image_opening.specs.ReadNodes.{IsItemNode, bare_of, is_table}
use Rattle.image_opening.proofs.Exact.{items_again, none_when, nodes_are}

-- ---- what was told, backwards

abbrev tells : ℕ → List CatalogItem → List Node → Bool
tells greatest items nodes = catalog_fits greatest (tables_told items) && are_same_nodes (catalog_nodes greatest (tables_told items)) nodes

pub record Telling (nodes : List Node) (items : List CatalogItem) (told : CatalogTold) : Type 0 where
  pub fits : catalog_fits told.greatest (tables_told items) ≡ true
  pub same : catalog_nodes told.greatest (tables_told items) ≡ nodes
  pub tables : told.tables ≡ tables_of_items items

telling_by : (nodes : List Node) (items : List CatalogItem) (told : CatalogTold) → told_by nodes items ≡ Some told → Telling nodes items told
telling_by nodes items told e = by_greatest (greatest_told items) e
  where
    by_tested : (greatest : ℕ) (test : Bool) → tells greatest items nodes ≡ test → (if test then Some (record { greatest = greatest; tables = tables_of_items items }) else None) ≡ Some told → Telling nodes items told
    by_tested greatest false is e = none_some told e
    by_tested greatest true is e =
        let whole : record { greatest = greatest; tables = tables_of_items items } ≡ told = same_some (record { greatest = greatest; tables = tables_of_items items }) told e in
        subst (Telling nodes items) whole
        (record {
          fits = and_left (catalog_fits greatest (tables_told items)) (are_same_nodes (catalog_nodes greatest (tables_told items)) nodes) is;
          same = nodes_are (catalog_nodes greatest (tables_told items)) nodes (and_right (catalog_fits greatest (tables_told items)) (are_same_nodes (catalog_nodes greatest (tables_told items)) nodes) is);
          tables = refl;
        })

    by_greatest : (o : Option ℕ) → (o >>= λ greatest. if tells greatest items nodes then Some (record { greatest = greatest; tables = tables_of_items items }) else None) ≡ Some told → Telling nodes items told
    by_greatest None e = none_some told e
    by_greatest (Some greatest) e = by_tested greatest (tells greatest items nodes) refl e

pub telling : (items : List CatalogItem) (told : CatalogTold) → list_all item_fits items ≡ true → catalog_told (map item_node items) ≡ Some told → Telling (map item_node items) items told
telling items told fit e =
    telling_by (map item_node items) items told (sym (ap (λ (o : Option (List CatalogItem)). o >>= λ all. told_by (map item_node items) all) (items_again items fit)) ∙ e)

-- ---- findings

pub untold : (o : Option CatalogTold) → o ≡ None → told_finding o ≡ Some Catalog
untold o e = ap told_finding e

pub unread_found : (nodes : List Node) → (AllByRecursion IsItemNode nodes → ⊥) → told_finding (catalog_told nodes) ≡ Some Catalog
unread_found nodes refuted = untold (catalog_told nodes) (none_when nodes refuted)

tables_counted : (items : List CatalogItem) → length (filter is_table items) ≡ length (flat_map table_told items)
tables_counted [] = refl
tables_counted (item.Greatest greatest ∷ items) = tables_counted items
tables_counted (item.Table table ∷ items) = ap suc (tables_counted items)
tables_counted (item.Column table column ∷ items) = tables_counted items
tables_counted (item.Index table root index ∷ items) = tables_counted items

-- more than 64 tables are too many
pub too_many : (items : List CatalogItem) → list_all item_fits items ≡ true → nat_lt 64 (length (filter is_table items)) ≡ true → told_finding (catalog_told (map item_node items)) ≡ Some Catalog
too_many items fit many = by_told (catalog_told (map item_node items)) refl
  where
    lt_of : (m n : ℕ) → nat_lt m n ≡ true → m < n
    lt_of m n e = grind (arith, nat_tests, e)

    count_told : (ts : List TableItem) (f : TableItem → CatalogTable) → length (map table_of (map with_tagged_longs (map f ts))) ≡ length ts
    count_told [] f = refl
    count_told (t ∷ ts) f = ap suc (count_told ts f)

    false_when : (tables : List Table) (greatest : ℕ) → 64 < length tables → is_sound_catalog greatest tables ≡ false
    false_when tables greatest lt = ap (λ (b : Bool). (b && differ (λ (t u : Table). bytes_eq t.name u.name) tables) && (are_given greatest tables && list_all is_sound_table tables)) (above (length tables) lt)
      where
        above : (n : ℕ) → 64 < n → nat_le n 64 ≡ false
        above n lt = grind (arith, nat_tests, lt)

    by_told : (o : Option CatalogTold) → catalog_told (map item_node items) ≡ o → told_finding o ≡ Some Catalog
    by_told None e = refl
    by_told (Some told) e =
        let t = telling items told fit e in
        let n : length (map table_of told.tables) ≡ length (flat_map table_told items) = ap (λ (l : List CatalogTable). length (map table_of l)) t.tables ∙ count_told (flat_map table_told items) (bare_of items) in
        ap (λ (b : Bool). if b then None else Some Catalog) (false_when (map table_of told.tables) told.greatest (omega (arith, lt_of 64 (length (filter is_table items)) many, tables_counted items, n)))

-- up to 64 of them are few
pub few_told : (items : List CatalogItem) (told : CatalogTold) → list_all item_fits items ≡ true → nat_lt 64 (length (filter is_table items)) ≡ false → catalog_told (map item_node items) ≡ Some told → length told.tables ≤ 64
few_told items told fit few e =
    let t = telling items told fit e in
    let n : length told.tables ≡ length (flat_map table_told items) = ap (λ (l : List CatalogTable). length l) t.tables ∙ count_told (flat_map table_told items) (bare_of items) in
    omega (arith, le_of (length (filter is_table items)) few, tables_counted items, n)
  where
    le_of : (n : ℕ) → nat_lt 64 n ≡ false → n ≤ 64
    le_of n h = grind (arith, nat_tests, h)

    count_told : (ts : List TableItem) (f : TableItem → CatalogTable) → length (map with_tagged_longs (map f ts)) ≡ length ts
    count_told [] f = refl
    count_told (t ∷ ts) f = ap suc (count_told ts f)
