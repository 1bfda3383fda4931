-- The indexes of a table that nodes tell, by their numbers: each but the primary one has its tree, and there is no other.
use Rattle.std.proofs.Common.{◌≡◌, ◌<◌, ℕ, suc, Bool, true, false, ◌&&◌, ◌||◌, List, [], ◌∷◌, ◌++◌, cond, length, Option, Some, None, refl, sym, ap, subst, ◌∙◌, arith}
use Rattle.std.specs.Prelude.{◌==◌, filter, find, map, nat_lt, not, if◌then◌else◌}
use Rattle.std.specs.List.{AllByRecursion, list_all, list_any}
use Rattle.std.proofs.lemmas.Bool.{ltb-true}
use Rattle.catalog_grammar.specs.CatalogBytes.{item_fits}
use Rattle.catalog_grammar.specs.Catalogs.{CatalogTable, catalog_items, has_rising_parts, rise_above, tables_told, with_tagged_longs}
use Rattle.column_set.specs.declared.columns.Column.{Column}
use Rattle.common_lemmas.proofs.Booleans.{and_left, and_right, impossible, or_swap}
use Rattle.common_lemmas.proofs.Lists.{all_weaker}
use Rattle.common_lemmas.proofs.Numbers.{self_equal, unequal_turned}
use Rattle.common_lemmas.proofs.Options.{none_some}
use Rattle.database_state.specs.Table.{primary_first}
use Rattle.image_findings.specs.CatalogFindings.{CatalogTold, in_order_of_making, rooted_indexes, table_of, with_order}
use Rattle.image_findings.specs.TableContents.{contents_below}
use Rattle.image_findings.specs.TreeFindings.{nodes_below}
use Rattle.image_opening.specs.OpenedTrees.{HasContents, index_opened, index_shown}
use Rattle.image_opening.specs.declared.opened.OpenedIndex.{OpenedIndex}
use Rattle.image_opening.specs.declared.opened.OpenedTable.{OpenedTable}
use Rattle.index_derive.specs.declared.rules.IndexRule.{IndexRule}
use Rattle.laws_versions.proofs.KeyLemmas.IndexNumbers.{all_primary_first}
use Rattle.laws_versions.specs.History.{EachTwo}
use Rattle.page_image.specs.Page.{Node}
use Rattle.page_space.specs.Frames.{Frames}
use Rattle.stored_variants.specs.VersionsKept.{secondary_rules}
use Rattle.engine_image.proofs.MovedTrees.{secondary}
use Rattle.engine_image.proofs.RisingTables.{IsTold, larger}
use Rattle.engine_image.proofs.TablesShown.{mapped_length}
use Rattle.engine_image.specs.MadeTables.{Differ, HasItsTrees, HaveTrees, has_number}

abbrev pub number_of : ℕ × IndexRule → ℕ
number_of index = index.1.id.0

abbrev rule_in : ℕ × IndexRule → IndexRule
rule_in index = index.1

abbrev pub is_rule : ℕ → IndexRule → Bool
is_rule index rule = rule.id.0 == index

-- the indexes of a table stand by rising number
abbrev pub RisesInside : CatalogTable → Type 0
RisesInside x = rise_above 0 (map number_of x.indexes) ≡ true

-- so do those of each table that nodes tell
pub parts_rise : (told : CatalogTold) → IsTold told → AllByRecursion RisesInside told.tables
parts_rise told is =
    subst (λ (xs : List CatalogTable). AllByRecursion RisesInside xs) (sym is.tables)
    (by (tables_told is.items)
    (and_right (rise_above 0 (map (λ (x : CatalogTable). x.table.id.0) (tables_told is.items))) (list_all has_rising_parts (tables_told is.items))
    (and_right (list_all item_fits (catalog_items told.greatest (tables_told is.items))) (rise_above 0 (map (λ (x : CatalogTable). x.table.id.0) (tables_told is.items)) && list_all has_rising_parts (tables_told is.items)) is.fits)))
  where
    by : (ys : List CatalogTable) → list_all has_rising_parts ys ≡ true → AllByRecursion RisesInside (map with_tagged_longs ys)
    by [] h = tt
    by (y ∷ ys) h = (
      and_right (rise_above 0 (map (λ (column : Column). column.id.0) y.columns)) (rise_above 0 (map number_of y.indexes)) (and_left (has_rising_parts y) (list_all has_rising_parts ys) h),
      by ys (and_right (has_rising_parts y) (list_all has_rising_parts ys) h),
    )

-- ---- numbers that rise differ

more : (low high : ℕ) → low < high → (index : ℕ × IndexRule) → high < number_of index → low < number_of index
more low high p index q = omega (arith, p, q)

above : (low : ℕ) (indexes : List (ℕ × IndexRule)) → rise_above low (map number_of indexes) ≡ true → AllByRecursion (λ (index : ℕ × IndexRule). low < number_of index) indexes
above low [] h = tt
above low (index ∷ indexes) h =
    let up = ltb-true low (number_of index) (and_left (nat_lt low (number_of index)) (rise_above (number_of index) (map number_of indexes)) h) in (
      up,
      all_weaker (λ (other : ℕ × IndexRule). number_of index < number_of other) (λ (other : ℕ × IndexRule). low < number_of other) (more low (number_of index) up) indexes
          (above (number_of index) indexes (and_right (nat_lt low (number_of index)) (rise_above (number_of index) (map number_of indexes)) h)),
    )

differ : (low : ℕ) (indexes : List (ℕ × IndexRule)) → rise_above low (map number_of indexes) ≡ true → EachTwo (λ (i j : ℕ × IndexRule). Differ (rule_in i) (rule_in j)) indexes
differ low [] h = tt
differ low (index ∷ indexes) h =
    let rest = and_right (nat_lt low (number_of index)) (rise_above (number_of index) (map number_of indexes)) h in (
      all_weaker (λ (j : ℕ × IndexRule). number_of index < number_of j) (λ (j : ℕ × IndexRule). Differ (rule_in index) (rule_in j)) (λ j lt. larger (number_of index) (number_of j) lt) indexes
          (above (number_of index) indexes rest),
      differ (number_of index) indexes rest,
    )

-- ---- in whatever order they stand

pub two_mapped : {X Y : Type 0} (R : Y → Y → Type 0) (f : X → Y) (xs : List X) → EachTwo (λ x y. R (f x) (f y)) xs → EachTwo R (map f xs)
two_mapped R f [] h = tt
two_mapped {X = X} {Y = Y} R f (x ∷ xs) h = (mapped xs h.0, two_mapped R f xs h.1)
  where
    mapped : (ys : List X) → AllByRecursion (λ y. R (f x) (f y)) ys → AllByRecursion (R (f x)) (map f ys)
    mapped [] a = tt
    mapped (y ∷ ys) a = (a.0, mapped ys a.1)

turned : (r s : IndexRule) → Differ r s → Differ s r
turned r s e = unequal_turned r.id.0 s.id.0 e

ordered_all : (P : IndexRule → Type 0) (rule : IndexRule) (rules : List IndexRule) → P rule → AllByRecursion P rules → AllByRecursion P (with_order rule rules)
ordered_all P rule [] h a = (h, tt)
ordered_all P rule (other ∷ rules) h a = by (nat_lt rule.order other.order) (ordered_all P rule rules h a.1)
  where
    by : (b : Bool) → AllByRecursion P (with_order rule rules) → AllByRecursion P (if b then rule ∷ other ∷ rules else other ∷ with_order rule rules)
    by true rest = (h, a)
    by false rest = (a.0, rest)

all_ordered : (P : IndexRule → Type 0) (rules : List IndexRule) → AllByRecursion P rules → AllByRecursion P (in_order_of_making rules)
all_ordered P [] h = tt
all_ordered P (rule ∷ rules) h = ordered_all P rule (in_order_of_making rules) h.0 (all_ordered P rules h.1)

with_one : (rule : IndexRule) (rules : List IndexRule) → AllByRecursion (Differ rule) rules → EachTwo Differ rules → EachTwo Differ (with_order rule rules)
with_one rule [] a e = (tt, tt)
with_one rule (other ∷ rules) a e = by (nat_lt rule.order other.order) (with_one rule rules a.1 e.1)
  where
    by : (b : Bool) → EachTwo Differ (with_order rule rules) → EachTwo Differ (if b then rule ∷ other ∷ rules else other ∷ with_order rule rules)
    by true rest = (a, e)
    by false rest = (ordered_all (Differ other) rule rules (turned rule other a.0) e.0, rest)

two_ordered : (rules : List IndexRule) → EachTwo Differ rules → EachTwo Differ (in_order_of_making rules)
two_ordered [] e = tt
two_ordered (rule ∷ rules) e = with_one rule (in_order_of_making rules) (all_ordered (Differ rule) rules e.0) (two_ordered rules e.1)

-- one more in the middle
middle : (P : IndexRule → Type 0) (front back : List IndexRule) (rule : IndexRule) → P rule → AllByRecursion P (front ++ back) → AllByRecursion P (front ++ rule ∷ back)
middle P [] back rule h a = (h, a)
middle P (other ∷ front) back rule h a = (a.0, middle P front back rule h a.1)

two_joined : (front back : List IndexRule) (rule : IndexRule) → EachTwo Differ (front ++ back) → AllByRecursion (Differ rule) (front ++ back) → EachTwo Differ (front ++ rule ∷ back)
two_joined [] back rule e a = (a, e)
two_joined (other ∷ front) back rule e a = (middle (Differ other) front back rule (turned rule other a.0) e.0, two_joined front back rule e.1 a.1)

abbrev primary : IndexRule → Bool
primary rule = rule.flags.primary

two_primary : (rules : List IndexRule) → EachTwo Differ rules → EachTwo Differ (primary_first rules)
two_primary [] e = tt
two_primary (rule ∷ rules) e = by rule.flags.primary (two_primary rules e.1) (all_primary_first (Differ rule) rules e.0)
  where
    by : (b : Bool) → EachTwo Differ (primary_first rules) → AllByRecursion (Differ rule) (primary_first rules)
        → EachTwo Differ (cond b (rule ∷ filter primary rules) (filter primary rules) ++ cond (not b) (rule ∷ filter secondary rules) (filter secondary rules))
    by true rest all = (all, rest)
    by false rest all = two_joined (filter primary rules) (filter secondary rules) rule rest all

two_filtered : (p : IndexRule → Bool) (rules : List IndexRule) → EachTwo Differ rules → EachTwo Differ (filter p rules)
two_filtered p [] h = tt
two_filtered p (rule ∷ rules) h = by (p rule) (two_filtered p rules h.1)
  where
    each : (ys : List IndexRule) → AllByRecursion (Differ rule) ys → AllByRecursion (Differ rule) (filter p ys)
    each [] a = tt
    each (y ∷ ys) a = at (p y) (each ys a.1)
      where
        at : (b : Bool) → AllByRecursion (Differ rule) (filter p ys) → AllByRecursion (Differ rule) (cond b (y ∷ filter p ys) (filter p ys))
        at true rest = (a.0, rest)
        at false rest = rest

    by : (b : Bool) → EachTwo Differ (filter p rules) → EachTwo Differ (cond b (rule ∷ filter p rules) (filter p rules))
    by true rest = (each rules h.0, rest)
    by false rest = rest

told_differ : (x : CatalogTable) → RisesInside x → EachTwo Differ (in_order_of_making (map rule_in x.indexes))
told_differ x rise = two_ordered (map rule_in x.indexes) (two_mapped Differ rule_in x.indexes (differ 0 x.indexes rise))

pub secondary_differ : (x : CatalogTable) → RisesInside x → EachTwo Differ (secondary_rules (table_of x))
secondary_differ x rise = two_filtered secondary (in_order_of_making (map rule_in x.indexes)) (told_differ x rise)

-- ---- whether one has a number

any_order : (q : IndexRule → Bool) (rule : IndexRule) (rules : List IndexRule) → list_any q (with_order rule rules) ≡ (q rule || list_any q rules)
any_order q rule [] = refl
any_order q rule (other ∷ rules) = by (nat_lt rule.order other.order) (any_order q rule rules)
  where
    by : (b : Bool) → list_any q (with_order rule rules) ≡ (q rule || list_any q rules) → list_any q (if b then rule ∷ other ∷ rules else other ∷ with_order rule rules) ≡ (q rule || (q other || list_any q rules))
    by true rest = refl
    by false rest = ap (λ (b : Bool). q other || b) rest ∙ or_swap (q other) (q rule) (list_any q rules)

any_ordered : (q : IndexRule → Bool) (rules : List IndexRule) → list_any q (in_order_of_making rules) ≡ list_any q rules
any_ordered q [] = refl
any_ordered q (rule ∷ rules) = any_order q rule (in_order_of_making rules) ∙ ap (λ (b : Bool). q rule || b) (any_ordered q rules)

any_filtered : {X : Type 0} (p q : X → Bool) (xs : List X) → list_any q (filter p xs) ≡ list_any (λ x. p x && q x) xs
any_filtered p q [] = refl
any_filtered {X} p q (x ∷ xs) = by (p x) (any_filtered p q xs)
  where
    by : (b : Bool) → list_any q (filter p xs) ≡ list_any (λ (y : X). p y && q y) xs → list_any q (cond b (x ∷ filter p xs) (filter p xs)) ≡ ((b && q x) || list_any (λ (y : X). p y && q y) xs)
    by true rest = ap (λ (c : Bool). q x || c) rest
    by false rest = rest

any_mapped : {X Y : Type 0} (f : X → Y) (q : Y → Bool) (xs : List X) → list_any q (map f xs) ≡ list_any (λ x. q (f x)) xs
any_mapped f q [] = refl
any_mapped f q (x ∷ xs) = ap (λ (b : Bool). q (f x) || b) (any_mapped f q xs)

abbrev told_number : ℕ → ℕ × IndexRule → Bool
told_number index i = number_of i == index

secondary_told : (x : CatalogTable) (index : ℕ) → list_any (is_rule index) (secondary_rules (table_of x)) ≡ list_any (told_number index) (rooted_indexes x)
secondary_told x index =
    let both = λ (rule : IndexRule). secondary rule && is_rule index rule in
    any_filtered secondary (is_rule index) (in_order_of_making (map rule_in x.indexes)) ∙ any_ordered both (map rule_in x.indexes) ∙ any_mapped rule_in both x.indexes
    ∙ sym (any_filtered (λ (i : ℕ × IndexRule). secondary (rule_in i)) (told_number index) x.indexes)

abbrev shown : Frames → ℕ × IndexRule → IndexRule × List Node
shown frames index = (index.1, nodes_below frames index.0)

-- an index of a number has a tree exactly where one was opened
pub numbers_same : (frames new : Frames) (x : CatalogTable) (o : OpenedTable) → HasContents new o (contents_below frames x) → (index : ℕ) → list_any (is_rule index) (secondary_rules (table_of x)) ≡ list_any (has_number index) o.indexes.items
numbers_same frames new x o has index =
    secondary_told x index ∙ sym (any_mapped (shown frames) (λ (j : IndexRule × List Node). j.0.id.0 == index) (rooted_indexes x))
    ∙ sym (any_mapped index_shown (λ (p : ℕ × List Node). p.0 == index) (contents_below frames x).indexes) ∙ ap (list_any (λ (p : ℕ × List Node). p.0 == index)) (sym has.indexes_are)
    ∙ any_mapped (index_opened new) (λ (p : ℕ × List Node). p.0 == index) o.indexes.items

-- ---- and the first that has it

found_any : {X : Type 0} (q : X → Bool) (xs : List X) → list_any q xs ≡ true → (x : X) × (find q xs ≡ Some x)
found_any q [] h = impossible h
found_any {X} q (y ∷ xs) h = by (q y) h (found_any q xs)
  where
    by : (b : Bool) → (b || list_any q xs) ≡ true → (list_any q xs ≡ true → (x : X) × (find q xs ≡ Some x)) → (x : X) × (cond b (Some y) (find q xs) ≡ Some x)
    by true h rest = (y, refl)
    by false h rest = rest h

any_found : {X : Type 0} (q : X → Bool) (xs : List X) (x : X) → find q xs ≡ Some x → list_any q xs ≡ true
any_found q [] x e = none_some x e
any_found {X} q (y ∷ xs) x e = by (q y) e (any_found q xs x)
  where
    by : (b : Bool) → cond b (Some y) (find q xs) ≡ Some x → (find q xs ≡ Some x → list_any q xs ≡ true) → (b || list_any q xs) ≡ true
    by true e rest = refl
    by false e rest = rest e

pub not_found : {X : Type 0} (q : X → Bool) (xs : List X) → list_any q xs ≡ false → find q xs ≡ None
not_found {X} q xs h = by (find q xs) refl
  where
    by : (o : Option X) → find q xs ≡ o → o ≡ None
    by None e = refl
    by (Some x) e = impossible (sym h ∙ any_found q xs x e)

pub none_any : {X : Type 0} (q : X → Bool) (xs : List X) → find q xs ≡ None → list_any q xs ≡ false
none_any {X} q xs h = by (list_any q xs) refl
  where
    by : (b : Bool) → list_any q xs ≡ b → b ≡ false
    by false e = refl
    by true e = let x = found_any q xs e in none_some x.0 (sym h ∙ x.1)

-- ---- each has its tree

or_right : (a b : Bool) → b ≡ true → (a || b) ≡ true
or_right true b h = refl
or_right false b h = h

own_any : (rules : List IndexRule) → AllByRecursion (λ (rule : IndexRule). rule.flags.primary ≡ false → list_any (is_rule rule.id.0) (filter secondary rules) ≡ true) rules
own_any [] = tt
own_any (rule ∷ rules) = (first, all_weaker (λ (r : IndexRule). r.flags.primary ≡ false → list_any (is_rule r.id.0) (filter secondary rules) ≡ true) (λ (r : IndexRule). r.flags.primary ≡ false → list_any (is_rule r.id.0) (filter secondary (rule ∷ rules)) ≡ true) later rules (own_any rules))
  where
    first : rule.flags.primary ≡ false → list_any (is_rule rule.id.0) (filter secondary (rule ∷ rules)) ≡ true
    first e =
        ap (λ (b : Bool). list_any (is_rule rule.id.0) (cond (not b) (rule ∷ filter secondary rules) (filter secondary rules))) e ∙ ap (λ (b : Bool). b || list_any (is_rule rule.id.0) (filter secondary rules)) (self_equal rule.id.0)

    later : (r : IndexRule) → (r.flags.primary ≡ false → list_any (is_rule r.id.0) (filter secondary rules) ≡ true) → r.flags.primary ≡ false → list_any (is_rule r.id.0) (filter secondary (rule ∷ rules)) ≡ true
    later r h e = by rule.flags.primary (h e)
      where
        by : (b : Bool) → list_any (is_rule r.id.0) (filter secondary rules) ≡ true → list_any (is_rule r.id.0) (cond (not b) (rule ∷ filter secondary rules) (filter secondary rules)) ≡ true
        by true there = there
        by false there = or_right (is_rule r.id.0 rule) (list_any (is_rule r.id.0) (filter secondary rules)) there

have_trees : (frames new : Frames) (x : CatalogTable) (o : OpenedTable) → HasContents new o (contents_below frames x) → HaveTrees o.indexes.items (primary_first (table_of x).indexes)
have_trees frames new x o has =
    all_primary_first (λ (rule : IndexRule). rule.flags.primary ≡ false → (i : OpenedIndex) × (find (has_number rule.id.0) o.indexes.items ≡ Some i)) (table_of x).indexes
    (all_weaker (λ (rule : IndexRule). rule.flags.primary ≡ false → list_any (is_rule rule.id.0) (secondary_rules (table_of x)) ≡ true)
    (λ (rule : IndexRule). rule.flags.primary ≡ false → (i : OpenedIndex) × (find (has_number rule.id.0) o.indexes.items ≡ Some i))
    (λ rule h e. found_any (has_number rule.id.0) o.indexes.items (sym (numbers_same frames new x o has rule.id.0) ∙ h e)) (table_of x).indexes (own_any (table_of x).indexes))

-- ---- and there is no other

count_order : (p : IndexRule → Bool) (rule : IndexRule) (rules : List IndexRule) → length (filter p (with_order rule rules)) ≡ length (cond (p rule) (rule ∷ filter p rules) (filter p rules))
count_order p rule [] = refl
count_order p rule (other ∷ rules) = by (nat_lt rule.order other.order) (count_order p rule rules)
  where
    at : (a b : Bool) → length (filter p (with_order rule rules)) ≡ length (cond b (rule ∷ filter p rules) (filter p rules))
        → length (cond a (other ∷ filter p (with_order rule rules)) (filter p (with_order rule rules))) ≡ length (cond b (rule ∷ cond a (other ∷ filter p rules) (filter p rules)) (cond a (other ∷ filter p rules) (filter p rules)))
    at true true rest = ap suc rest
    at true false rest = ap suc rest
    at false true rest = rest
    at false false rest = rest

    by : (c : Bool) → length (filter p (with_order rule rules)) ≡ length (cond (p rule) (rule ∷ filter p rules) (filter p rules))
        → length (filter p (if c then rule ∷ other ∷ rules else other ∷ with_order rule rules)) ≡ length (cond (p rule) (rule ∷ filter p (other ∷ rules)) (filter p (other ∷ rules)))
    by true rest = refl
    by false rest = at (p other) (p rule) rest

count_ordered : (p : IndexRule → Bool) (rules : List IndexRule) → length (filter p (in_order_of_making rules)) ≡ length (filter p rules)
count_ordered p [] = refl
count_ordered p (rule ∷ rules) = count_order p rule (in_order_of_making rules) ∙ by (p rule) (count_ordered p rules)
  where
    by : (b : Bool) → length (filter p (in_order_of_making rules)) ≡ length (filter p rules) → length (cond b (rule ∷ filter p (in_order_of_making rules)) (filter p (in_order_of_making rules))) ≡ length (cond b (rule ∷ filter p rules) (filter p rules))
    by true rest = ap suc rest
    by false rest = rest

count_mapped : {X Y : Type 0} (f : X → Y) (p : Y → Bool) (xs : List X) → length (filter p (map f xs)) ≡ length (filter (λ x. p (f x)) xs)
count_mapped f p [] = refl
count_mapped {X} f p (x ∷ xs) = by (p (f x)) (count_mapped f p xs)
  where
    by : (b : Bool) → length (filter p (map f xs)) ≡ length (filter (λ (y : X). p (f y)) xs) → length (cond b (f x ∷ filter p (map f xs)) (filter p (map f xs))) ≡ length (cond b (x ∷ filter (λ (y : X). p (f y)) xs) (filter (λ (y : X). p (f y)) xs))
    by true rest = ap suc rest
    by false rest = rest

as_many : (frames new : Frames) (x : CatalogTable) (o : OpenedTable) → HasContents new o (contents_below frames x) → length (secondary_rules (table_of x)) ≡ length o.indexes.items
as_many frames new x o has =
    count_ordered secondary (map rule_in x.indexes) ∙ count_mapped rule_in secondary x.indexes ∙ sym (mapped_length (shown frames) (rooted_indexes x)) ∙ sym (mapped_length index_shown (contents_below frames x).indexes)
    ∙ ap (λ (l : List (ℕ × List Node)). length l) (sym has.indexes_are) ∙ mapped_length (index_opened new) o.indexes.items

pub its_trees : (frames new : Frames) (x : CatalogTable) (o : OpenedTable) → RisesInside x → HasContents new o (contents_below frames x) → HasItsTrees (table_of x) o
its_trees frames new x o rise has = record { differ = two_primary (table_of x).indexes (told_differ x rise); have = have_trees frames new x o has; many = as_many frames new x o has }
