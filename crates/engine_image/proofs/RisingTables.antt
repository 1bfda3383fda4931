-- The tables of an image rise by their numbers, so that each is found by its own.
use Rattle.std.proofs.Common.{◌≡◌, ◌<◌, ℕ, Bool, true, false, ◌&&◌, cond, List, [], ◌∷◌, Option, Some, None, refl, sym, ap, subst, ◌∙◌, arith}
use Rattle.std.specs.Prelude.{◌==◌, find, map, nat_lt, if◌then◌else◌}
use Rattle.std.specs.List.{AllByRecursion, list_all}
use Rattle.std.proofs.lemmas.Bool.{ltb-true}
use Rattle.std.proofs.lemmas.Bool.Decides.{nat_tests}
use Rattle.column_set.specs.NumberReading.{◌>>=◌}
use Rattle.catalog_grammar.specs.CatalogBytes.{item_fits}
use Rattle.catalog_grammar.specs.Catalogs.{CatalogTable, catalog_fits, catalog_items, catalog_nodes, has_rising_parts, rise_above, tables_of_items, tables_told, with_tagged_longs}
use Rattle.catalog_grammar.specs.declared.items.CatalogItem.{CatalogItem}
use Rattle.common_lemmas.proofs.Booleans.{and_left, and_right}
use Rattle.common_lemmas.proofs.Lists.{all_weaker}
use Rattle.common_lemmas.proofs.Numbers.{self_equal}
use Rattle.common_lemmas.proofs.Options.{none_some, same_some}
use Rattle.image_findings.specs.CatalogFindings.{CatalogTold, are_same_nodes, catalog_told, greatest_told, items_in, told_by}
use Rattle.image_findings.specs.TableContents.{TableContents, contents_below, contents_with_id}
use Rattle.laws_versions.specs.History.{EachTwo}
use Rattle.page_image.specs.Page.{Node}
use Rattle.page_space.specs.Frames.{Frames}

-- ---- the items that tell a catalog can be written

pub record IsTold (told : CatalogTold) : Type 0 where
  pub items : List CatalogItem
  pub fits : catalog_fits told.greatest (tables_told items) ≡ true
  pub tables : told.tables ≡ tables_of_items items

checked : (items : List CatalogItem) (greatest : ℕ) (told : CatalogTold) (same b : Bool) → (catalog_fits greatest (tables_told items) && same) ≡ b
    → (if b then Some (record { greatest = greatest; tables = tables_of_items items }) else None) ≡ Some told → IsTold told
checked items greatest told same true p e =
    let made : CatalogTold = record { greatest = greatest; tables = tables_of_items items } in
    subst IsTold (same_some made told e) (record { items = items; fits = and_left (catalog_fits greatest (tables_told items)) same p; tables = refl })
checked items greatest told same false p e = none_some told e

of_greatest : (nodes : List Node) (items : List CatalogItem) (told : CatalogTold) (o : Option ℕ) →
    (o >>= λ greatest. if catalog_fits greatest (tables_told items) && are_same_nodes (catalog_nodes greatest (tables_told items)) nodes then Some (record { greatest = greatest; tables = tables_of_items items }) else None) ≡ Some told → IsTold told
of_greatest nodes items told None e = none_some told e
of_greatest nodes items told (Some greatest) e =
    checked items greatest told (are_same_nodes (catalog_nodes greatest (tables_told items)) nodes) (catalog_fits greatest (tables_told items) && are_same_nodes (catalog_nodes greatest (tables_told items)) nodes) refl e

of_items : (nodes : List Node) (told : CatalogTold) (o : Option (List CatalogItem)) → (o >>= λ items. told_by nodes items) ≡ Some told → IsTold told
of_items nodes told None e = none_some told e
of_items nodes told (Some items) e = of_greatest nodes items told (greatest_told items) e

pub is_told : (nodes : List Node) (told : CatalogTold) → catalog_told nodes ≡ Some told → IsTold told
is_told nodes told e = of_items nodes told (items_in nodes) e

-- ---- tables in order

abbrev pub Rises : TableContents → TableContents → Type 0
Rises s t = s.table.id < t.table.id

abbrev number_of : CatalogTable → ℕ
number_of x = x.table.id.0

abbrev told_by_items : Frames → List CatalogTable → List TableContents
told_by_items frames ys = map (contents_below frames) (map with_tagged_longs ys)

above : (low high : ℕ) → low < high → (t : TableContents) → high < t.table.id → low < t.table.id
above low high p t q = omega (arith, p, q)

record AreRising (low : ℕ) (tables : List TableContents) : Type 0 where
  two : EachTwo Rises tables
  each : AllByRecursion (λ t. low < t.table.id) tables

rising : (frames : Frames) (low : ℕ) (ys : List CatalogTable) → rise_above low (map number_of ys) ≡ true → AreRising low (told_by_items frames ys)
rising frames low [] h = record { two = tt; each = tt }
rising frames low (y ∷ ys) h =
    let first = ltb-true low (number_of y) (and_left (nat_lt low (number_of y)) (rise_above (number_of y) (map number_of ys)) h) in
    let rest = rising frames (number_of y) ys (and_right (nat_lt low (number_of y)) (rise_above (number_of y) (map number_of ys)) h) in
    record { two = (rest.each, rest.two); each = (first, all_weaker (λ t. number_of y < t.table.id) (λ t. low < t.table.id) (above low (number_of y) first) (told_by_items frames ys) rest.each) }

told_rise : (greatest : ℕ) (ys : List CatalogTable) → catalog_fits greatest ys ≡ true → rise_above 0 (map number_of ys) ≡ true
told_rise greatest ys h =
    and_left (rise_above 0 (map number_of ys)) (list_all has_rising_parts ys) (and_right (list_all item_fits (catalog_items greatest ys)) (rise_above 0 (map number_of ys) && list_all has_rising_parts ys) h)

pub tables_rise : (frames : Frames) (told : CatalogTold) → IsTold told → EachTwo Rises (map (contents_below frames) told.tables)
tables_rise frames told t = subst (λ xs. EachTwo Rises (map (contents_below frames) xs)) (sym t.tables) (rising frames 0 (tables_told t.items) (told_rise told.greatest (tables_told t.items) t.fits)).two

-- ---- and found by their numbers

pub larger : (m n : ℕ) → m < n → (m == n) ≡ false
larger m n h = grind (arith, nat_tests, h)

pub all_both : {X : Type 0} (P Q R : X → Type 0) → ((x : X) → P x → Q x → R x) → (xs : List X) → AllByRecursion P xs → AllByRecursion Q xs → AllByRecursion R xs
all_both P Q R f [] p q = tt
all_both P Q R f (x ∷ xs) p q = (f x p.0 q.0, all_both P Q R f xs p.1 q.1)

found_each : (tables : List TableContents) → EachTwo Rises tables → AllByRecursion (λ t. contents_with_id tables t.table.id ≡ Some t) tables
found_each [] h = tt
found_each (x ∷ xs) h = (
  ap (λ (b : Bool). cond b (Some x) (find (λ t. t.table.id == x.table.id) xs)) (self_equal x.table.id),
  all_both (Rises x) (λ t. contents_with_id xs t.table.id ≡ Some t) (λ t. contents_with_id (x ∷ xs) t.table.id ≡ Some t)
      (λ t rises found. ap (λ (b : Bool). cond b (Some x) (find (λ u. u.table.id == t.table.id) xs)) (larger x.table.id t.table.id rises) ∙ found) xs h.0 (found_each xs h.1),
)

pub found_by_number : (frames : Frames) (nodes : List Node) (told : CatalogTold) → catalog_told nodes ≡ Some told
    → AllByRecursion (λ (t : TableContents). contents_with_id (map (contents_below frames) told.tables) t.table.id ≡ Some t) (map (contents_below frames) told.tables)
found_by_number frames nodes told e = found_each (map (contents_below frames) told.tables) (tables_rise frames told (is_told nodes told e))
