-- The indexes of a catalog that have a tree are found by their numbers.
use Rattle.std.proofs.Common.{◌≡◌, ◌<◌, ℕ, Bool, true, false, ◌&&◌, List, [], ◌∷◌, cond, Some, refl, sym, ap, subst, ◌∙◌, arith}
use Rattle.std.specs.Prelude.{◌==◌, filter, find, map, nat_lt, not, option_map}
use Rattle.std.specs.List.{AllByRecursion, list_all}
use Rattle.std.proofs.lemmas.Bool.Decides.{nat_tests}
use Rattle.catalog_grammar.specs.CatalogBytes.{item_fits}
use Rattle.catalog_grammar.specs.Catalogs.{CatalogTable, catalog_items, has_rising_parts, rise_above, tables_told, with_tagged_longs}
use Rattle.common_lemmas.proofs.Booleans.{and_left, and_right, impossible}
use Rattle.common_lemmas.proofs.Finding.{find_map}
use Rattle.common_lemmas.proofs.Lists.{all_filter, all_map, all_weaker}
use Rattle.common_lemmas.proofs.Numbers.{self_equal}
use Rattle.index_derive.specs.declared.rules.IndexRule.{IndexRule}
use Rattle.laws_versions.specs.History.{EachTwo}
use Rattle.page_image.specs.Page.{Node}
use Rattle.page_space.specs.Frames.{Frames}
use Rattle.image_findings.specs.CatalogFindings.{CatalogTold, rooted_indexes}
use Rattle.image_findings.specs.OwnRules.{HasIndexTrees, HasItsNodes}
use Rattle.image_findings.specs.TableContents.{contents_below}
use Rattle.image_findings.specs.TreeFindings.{nodes_below}
use Rattle.image_findings.proofs.SoundIndexes.{all_above, all_of_two, in_order_all}
use Rattle.image_findings.proofs.Told.{IsTold}

abbrev RootedIndex : Type 0
RootedIndex = ℕ × IndexRule

abbrev number_of : RootedIndex → ℕ
number_of index = index.1.id.0

unequal : (m n : ℕ) → m < n → (m == n) ≡ false
unequal m n h = grind (arith, nat_tests, h)

abbrev Differs : RootedIndex → RootedIndex → Type 0
Differs index other = (number_of index == number_of other) ≡ false

differ : (low : ℕ) (indexes : List RootedIndex) → rise_above low (map number_of indexes) ≡ true → EachTwo Differs indexes
differ low [] h = tt
differ low (index ∷ indexes) h =
    let rest = and_right (nat_lt low (number_of index)) (rise_above (number_of index) (map number_of indexes)) h in
    (all_weaker (λ (other : RootedIndex). number_of index < other.1.id.0) (Differs index) (λ other lt. unequal (number_of index) (number_of other) lt) indexes (all_above (number_of index) indexes rest), differ (number_of index) indexes rest)

-- ---- lists

filtered : {X : Type 0} (R : X → X → Type 0) (p : X → Bool) (xs : List X) → EachTwo R xs → EachTwo R (filter p xs)
filtered R p [] h = tt
filtered {X} R p (x ∷ xs) h = by (p x) (filtered R p xs h.1)
  where
    by : (b : Bool) → EachTwo R (filter p xs) → EachTwo R (cond b (x ∷ filter p xs) (filter p xs))
    by true rest = (all_filter (R x) p xs h.0, rest)
    by false rest = rest

-- what each of those that pass has, each has where it passes
unfiltered : {X : Type 0} (P : X → Type 0) (p : X → Bool) (xs : List X) → AllByRecursion P (filter p xs) → AllByRecursion (λ x. p x ≡ true → P x) xs
unfiltered P p [] h = tt
unfiltered P p (x ∷ xs) h = by (p x) refl h (unfiltered P p xs)
  where
    by : (b : Bool) → p x ≡ b → AllByRecursion P (cond b (x ∷ filter p xs) (filter p xs)) → (AllByRecursion P (filter p xs) → AllByRecursion (λ y. p y ≡ true → P y) xs) → (p x ≡ true → P x) × AllByRecursion (λ y. p y ≡ true → P y) xs
    by true e h rest = ((λ g. h.0), rest h.1)
    by false e h rest = ((λ g. impossible (sym e ∙ g)), rest h)

abbrev IsFoundIn : List RootedIndex → RootedIndex → Type 0
IsFoundIn indexes index = find (λ (other : RootedIndex). number_of other == number_of index) indexes ≡ Some index

found_each : (indexes : List RootedIndex) → EachTwo Differs indexes → AllByRecursion (IsFoundIn indexes) indexes
found_each [] h = tt
found_each (x ∷ xs) h = (
  ap (λ (b : Bool). cond b (Some x) (find (λ (other : RootedIndex). number_of other == number_of x) xs)) (self_equal (number_of x)),
  all_of_two (Differs x) (IsFoundIn xs) (IsFoundIn (x ∷ xs)) (λ y other found. ap (λ (b : Bool). cond b (Some x) (find (λ (z : RootedIndex). number_of z == number_of y) xs)) other ∙ found) xs h.0 (found_each xs h.1),
)

-- ---- the trees of a table

abbrev shown : Frames → RootedIndex → IndexRule × List Node
shown frames index = (index.1, nodes_below frames index.0)

own_nodes : (frames : Frames) (x : CatalogTable) → rise_above 0 (map number_of x.indexes) ≡ true → HasIndexTrees (contents_below frames x)
own_nodes frames x rise =
    let t = contents_below frames x in
    let plain = λ (index : RootedIndex). not index.1.flags.primary in
    in_order_all (λ (rule : IndexRule). rule.flags.primary ≡ false → HasItsNodes t rule) (map (λ (index : RootedIndex). index.1) x.indexes)
    (all_map (λ (rule : IndexRule). rule.flags.primary ≡ false → HasItsNodes t rule) (λ (index : RootedIndex). index.1) x.indexes
    (all_weaker (λ (index : RootedIndex). plain index ≡ true → IsFoundIn (rooted_indexes x) index) (λ (index : RootedIndex). index.1.flags.primary ≡ false → HasItsNodes t index.1)
    (λ index found none. record { nodes = nodes_below frames index.0; found = find_map (shown frames) (λ (other : IndexRule × List Node). other.0.id.0 == index.1.id.0) (rooted_indexes x) ∙ ap (option_map (shown frames)) (found (ap not none)) }) x.indexes
    (unfiltered (IsFoundIn (rooted_indexes x)) plain x.indexes (found_each (rooted_indexes x) (filtered Differs plain x.indexes (differ 0 x.indexes rise))))))

pub index_trees : (frames : Frames) (told : CatalogTold) → IsTold told → AllByRecursion HasIndexTrees (map (contents_below frames) told.tables)
index_trees frames told is =
    subst (λ (xs : List CatalogTable). AllByRecursion HasIndexTrees (map (contents_below frames) xs)) (sym is.tables)
    (by (tables_told is.items)
    (and_right (rise_above 0 (map (λ (x : CatalogTable). x.table.id.0) (tables_told is.items))) (list_all has_rising_parts (tables_told is.items))
    (and_right (list_all item_fits (catalog_items told.greatest (tables_told is.items))) (rise_above 0 (map (λ (x : CatalogTable). x.table.id.0) (tables_told is.items)) && list_all has_rising_parts (tables_told is.items)) is.fits)))
  where
    by : (ys : List CatalogTable) → list_all has_rising_parts ys ≡ true → AllByRecursion HasIndexTrees (map (contents_below frames) (map with_tagged_longs ys))
    by [] h = tt
    by (y ∷ ys) h = (
      own_nodes frames (with_tagged_longs y) (and_right (rise_above 0 (map (λ column. column.id.0) y.columns)) (rise_above 0 (map number_of y.indexes)) (and_left (has_rising_parts y) (list_all has_rising_parts ys) h)),
      by ys (and_right (has_rising_parts y) (list_all has_rising_parts ys) h),
    )
