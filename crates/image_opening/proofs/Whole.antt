-- Items that tell a catalog: the tables that they tell, as a database has them, rise and are all that there is.
use Rattle.std.proofs.Common.{◌≡◌, ℕ, ◌<◌, ◌≤◌, Bool, true, false, Some, None, List, length, map, sym, ap, ◌∙◌, arith}
use Rattle.std.specs.Prelude.{◌&&◌, nat_le}
use Rattle.std.specs.List.{list_all}
use Rattle.std.proofs.lemmas.Bool.Decides.{nat_tests}
use Rattle.common_lemmas.proofs.Booleans.{and_left, and_right, by_test}
use Rattle.page_image.specs.Page.{HasRisingKeys}
use Rattle.catalog_grammar.specs.CatalogBytes.{item_fits, item_node}
use Rattle.catalog_grammar.specs.Catalogs.{CatalogTable, catalog_items, has_rising_parts, rise_above, tables_of_items, tables_told}
use Rattle.catalog_grammar.specs.declared.items.CatalogItem.{CatalogItem}
use Rattle.image_findings.specs.CatalogFindings.{catalog_told, greatest_told}
use Rattle.image_opening.specs.ReadNodes.{are_whole}
use Rattle.image_opening.proofs.Exact.{none_fewer, none_numbers, none_parts, numbers_of, told_is, told_nothing}
use Rattle.image_opening.proofs.TaggedParts.{count_tagged, numbers_tagged, parts_tagged}

abbrev rising : List CatalogTable → Bool
rising tables = rise_above 0 (numbers_of tables)

abbrev parts : List CatalogTable → Bool
parts tables = list_all has_rising_parts tables

abbrev enough : ℕ → ℕ → List CatalogTable → Bool
enough greatest count tables = nat_le count (length (catalog_items greatest tables))

-- the same is asked of the tables as they are told
as_told : (greatest count : ℕ) (items : List CatalogItem) → are_whole greatest count (tables_of_items items) ≡ are_whole greatest count (tables_told items)
as_told greatest count items =
    let tables = tables_told items in
    ap (λ (l : List ℕ). rise_above 0 l && (parts (tables_of_items items) && enough greatest count (tables_of_items items))) (numbers_tagged tables)
    ∙ ap (λ (b : Bool). rising tables && (b && enough greatest count (tables_of_items items))) (parts_tagged tables)
    ∙ ap (λ (n : ℕ). rising tables && (parts tables && nat_le count n)) (count_tagged greatest tables)

le_of : (m n : ℕ) → nat_le m n ≡ true → m ≤ n
le_of m n e = grind (arith, nat_tests, e)

less_of : (m n : ℕ) → nat_le m n ≡ false → n < m
less_of m n e = grind (arith, nat_tests, e)

told_whole : (greatest : ℕ) (items : List CatalogItem) → HasRisingKeys (map item_node items) → list_all item_fits items ≡ true → greatest_told items ≡ Some greatest → are_whole greatest (length items) (tables_told items) ≡ true
    → catalog_told (map item_node items) ≡ Some (record { greatest = greatest; tables = tables_of_items items })
told_whole greatest items keys fit head e =
    let tables = tables_told items in
    let rest = and_right (rising tables) (parts tables && enough greatest (length items) tables) e in
    told_is greatest items keys fit head (and_left (rising tables) (parts tables && enough greatest (length items) tables) e) (and_left (parts tables) (enough greatest (length items) tables) rest)
    (le_of (length items) (length (catalog_items greatest tables)) (and_right (parts tables) (enough greatest (length items) tables) rest))

told_in_part : (greatest : ℕ) (items : List CatalogItem) → list_all item_fits items ≡ true → greatest_told items ≡ Some greatest → are_whole greatest (length items) (tables_told items) ≡ false → catalog_told (map item_node items) ≡ None
told_in_part greatest items fit head e =
    let tables = tables_told items in
    by_test (rising tables)
    (λ rise. by_test (parts tables)
    (λ part. none_fewer greatest items fit head
    (less_of (length items) (length (catalog_items greatest tables)) (ap (λ (b : Bool). b && enough greatest (length items) tables) (sym part) ∙ ap (λ (b : Bool). b && (parts tables && enough greatest (length items) tables)) (sym rise) ∙ e)))
    (λ refuted. none_parts greatest items fit head refuted))
    (λ refuted. none_numbers greatest items fit head refuted)

pub whole : (greatest : ℕ) (items : List CatalogItem) (tables : List CatalogTable) → HasRisingKeys (map item_node items) → list_all item_fits items ≡ true → greatest_told items ≡ Some greatest → tables ≡ tables_of_items items → are_whole greatest (length items) tables ≡ true
    → Some (record { greatest = greatest; tables = tables }) ≡ catalog_told (map item_node items)
whole greatest items tables keys fit head is e =
    ap (λ (l : List CatalogTable). Some (record { greatest = greatest; tables = l })) is
    ∙ sym (told_whole greatest items keys fit head (sym (as_told greatest (length items) items) ∙ ap (are_whole greatest (length items)) (sym is) ∙ e))

pub not_whole : (greatest : ℕ) (items : List CatalogItem) (tables : List CatalogTable) → list_all item_fits items ≡ true → greatest_told items ≡ Some greatest → tables ≡ tables_of_items items → are_whole greatest (length items) tables ≡ false → None ≡ catalog_told (map item_node items)
not_whole greatest items tables fit head is e = sym (told_in_part greatest items fit head (sym (as_told greatest (length items) items) ∙ ap (are_whole greatest (length items)) (sym is) ∙ e))

pub no_head : (items : List CatalogItem) → list_all item_fits items ≡ true → greatest_told items ≡ None → None ≡ catalog_told (map item_node items)
no_head items fit e = sym (told_nothing items fit e)

pub whole_rises : (greatest count : ℕ) (tables : List CatalogTable) → are_whole greatest count tables ≡ true → rise_above 0 (map (λ (x : CatalogTable). x.table.id.0) tables) ≡ true
whole_rises greatest count tables e = and_left (rising tables) (parts tables && enough greatest count tables) e

pub whole_when : (greatest count : ℕ) (tables : List CatalogTable) (result : Bool) → rising tables ≡ true → parts tables ≡ true → result ≡ enough greatest count tables → result ≡ are_whole greatest count tables
whole_when greatest count tables result rise part e =
    e ∙ ap (λ (b : Bool). b && enough greatest count tables) (sym part) ∙ ap (λ (b : Bool). b && (parts tables && enough greatest count tables)) (sym rise)
