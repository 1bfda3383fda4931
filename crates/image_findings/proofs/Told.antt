-- What the nodes of a catalog tell: its items can be written, and its tables rise.
use Rattle.std.proofs.Common.{◌≡◌, ◌≤◌, ◌<◌, ℕ, Bool, true, false, ◌&&◌, List, [], ◌∷◌, Option, Some, None, refl, sym, subst, arith}
use Rattle.std.specs.Prelude.{nat_le, nat_lt, map, if◌then◌else◌}
use Rattle.std.specs.List.{AllByRecursion, list_all}
use Rattle.std.proofs.lemmas.Bool.{leb-true, ltb-true}
use Rattle.column_set.specs.NumberReading.{◌>>=◌}
use Rattle.catalog_grammar.specs.CatalogBytes.{item_fits}
use Rattle.catalog_grammar.specs.Catalogs.{CatalogTable, catalog_fits, catalog_items, catalog_nodes, has_rising_parts, rise_above, tables_of_items, tables_told, with_tagged_longs}
use Rattle.catalog_grammar.specs.declared.items.CatalogItem.{CatalogItem}
use Rattle.common_lemmas.proofs.Booleans.{and_left, and_right}
use Rattle.common_lemmas.proofs.Lists.{all_weaker}
use Rattle.common_lemmas.proofs.Options.{none_some, same_some}
use Rattle.database_state.specs.Table.{Table}
use Rattle.laws_versions.specs.History.{EachTwo}
use Rattle.laws_versions.specs.TableOrder.{IdsRise}
use Rattle.page_image.specs.Page.{Node}
use Rattle.page_space.specs.Frames.{Frames}
use Rattle.image_findings.specs.CatalogFindings.{CatalogTold, are_same_nodes, catalog_told, greatest_told, is_sound_catalog, items_in, table_of, told_by}
use Rattle.image_findings.proofs.Lists.{each_passes}
use Rattle.image_findings.proofs.Tables.{given_tables, shown, shown_tests}

-- the items that tell a catalog can be written
pub record IsTold (told : CatalogTold) : Type 0 where
  pub items : List CatalogItem
  pub fits : catalog_fits told.greatest (tables_told items) ≡ true
  pub tables : told.tables ≡ tables_of_items items

checked : (items : List CatalogItem) (greatest : ℕ) (told : CatalogTold) (same b : Bool) → (catalog_fits greatest (tables_told items) && same) ≡ b
    → (if b then Some (record { greatest = greatest; tables = tables_of_items items }) else None) ≡ Some told → IsTold told
checked items greatest told same true p e =
    let made : CatalogTold = record { greatest = greatest; tables = tables_of_items items } in
    subst IsTold (same_some made told e) (record { items = items; fits = and_left (catalog_fits greatest (tables_told items)) same p; tables = refl })
checked items greatest told same false p e = none_some told e

of_greatest : (nodes : List Node) (items : List CatalogItem) (told : CatalogTold) (o : Option ℕ) →
    (o >>= λ greatest. if catalog_fits greatest (tables_told items) && are_same_nodes (catalog_nodes greatest (tables_told items)) nodes then Some (record { greatest = greatest; tables = tables_of_items items }) else None) ≡ Some told → IsTold told
of_greatest nodes items told None e = none_some told e
of_greatest nodes items told (Some greatest) e =
    checked items greatest told (are_same_nodes (catalog_nodes greatest (tables_told items)) nodes) (catalog_fits greatest (tables_told items) && are_same_nodes (catalog_nodes greatest (tables_told items)) nodes) refl e

of_items : (nodes : List Node) (told : CatalogTold) (o : Option (List CatalogItem)) → (o >>= λ items. told_by nodes items) ≡ Some told → IsTold told
of_items nodes told None e = none_some told e
of_items nodes told (Some items) e = of_greatest nodes items told (greatest_told items) e

pub is_told : (nodes : List Node) (told : CatalogTold) → catalog_told nodes ≡ Some told → IsTold told
is_told nodes told e = of_items nodes told (items_in nodes) e

-- ---- tables in order

abbrev number_of : CatalogTable → ℕ
number_of x = x.table.id.0

above : (low high : ℕ) → low < high → (t : Table) → high < t.id → low < t.id
above low high p t q = omega (arith, p, q)

record AreRising (low : ℕ) (tables : List Table) : Type 0 where
  two : EachTwo IdsRise tables
  each : AllByRecursion (λ t. low < t.id) tables

rising : (frames : Frames) (low : ℕ) (ys : List CatalogTable) → rise_above low (map number_of ys) ≡ true → AreRising low (shown frames (map with_tagged_longs ys))
rising frames low [] h = record { two = tt; each = tt }
rising frames low (y ∷ ys) h =
    let first = ltb-true low (number_of y) (and_left (nat_lt low (number_of y)) (rise_above (number_of y) (map number_of ys)) h) in
    let rest = rising frames (number_of y) ys (and_right (nat_lt low (number_of y)) (rise_above (number_of y) (map number_of ys)) h) in
    record { two = (rest.each, rest.two); each = (first, all_weaker (λ t. number_of y < t.id) (λ t. low < t.id) (above low (number_of y) first) (shown frames (map with_tagged_longs ys)) rest.each) }

told_rise : (greatest : ℕ) (ys : List CatalogTable) → catalog_fits greatest ys ≡ true → rise_above 0 (map number_of ys) ≡ true
told_rise greatest ys h =
    and_left (rise_above 0 (map number_of ys)) (list_all has_rising_parts ys) (and_right (list_all item_fits (catalog_items greatest ys)) (rise_above 0 (map number_of ys) && list_all has_rising_parts ys) h)

tables_rise : (frames : Frames) (told : CatalogTold) → IsTold told → AreRising 0 (shown frames told.tables)
tables_rise frames told t = subst (λ xs. AreRising 0 (shown frames xs)) (sym t.tables) (rising frames 0 (tables_told t.items) (told_rise told.greatest (tables_told t.items) t.fits))

pub ids_rise : (frames : Frames) (told : CatalogTold) → IsTold told → EachTwo IdsRise (shown frames told.tables)
ids_rise frames told t = (tables_rise frames told t).two

both : (greatest : ℕ) (tables : List Table) → AllByRecursion (λ t. 0 < t.id) tables → AllByRecursion (λ t. nat_le t.id greatest ≡ true) tables → AllByRecursion (λ t. (0 < t.id) × (t.id ≤ greatest)) tables
both greatest [] p q = tt
both greatest (t ∷ tables) p q = ((p.0, leb-true t.id greatest q.0), both greatest tables p.1 q.1)

pub ids_are_given : (frames : Frames) (told : CatalogTold) → IsTold told → is_sound_catalog told.greatest (map table_of told.tables) ≡ true → AllByRecursion (λ t. (0 < t.id) × (t.id ≤ told.greatest)) (shown frames told.tables)
ids_are_given frames told t h =
    both told.greatest (shown frames told.tables) (tables_rise frames told t).each
    (each_passes (λ (t : Table). nat_le t.id told.greatest) (shown frames told.tables) (shown_tests frames (λ (t : Table). nat_le t.id told.greatest) (λ x. refl) told.tables (given_tables told.greatest (map table_of told.tables) h)))
