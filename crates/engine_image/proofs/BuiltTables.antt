-- Each made table of a consistent image is in order.
use Rattle.std.proofs.Common.{◌≡◌, ◌+◌, ◌≤◌, ℕ, Bool, false, List, [], ◌∷◌, cond, refl, sym, ap, subst, ◌∙◌, arith}
use Rattle.std.specs.Prelude.{◌==◌, count_by, map}
use Rattle.std.specs.List.{AllByRecursion}
use Rattle.std.proofs.lemmas.Bool.{eqb-true}
use Rattle.std.proofs.lemmas.List.Elements.{All-from_recursion}
use Rattle.std.proofs.lemmas.List.Sums.{sum_by-cons}
use Rattle.btree_inplace.specs.Trees.{nodes_of}
use Rattle.btree_inplace.specs.declared.Tree.{Tree}
use Rattle.common_lemmas.proofs.Booleans.{by_test}
use Rattle.common_lemmas.proofs.Numbers.{unequal_turned}
use Rattle.image_contents.specs.WholeValues.{HasWholeValues}
use Rattle.image_findings.specs.TableContents.{TableContents, long_values}
use Rattle.image_findings.specs.ValueFindings.{broken_values}
use Rattle.image_opening.specs.OpenedTrees.{HasContents, opened_pages}
use Rattle.image_opening.specs.declared.opened.OpenedTable.{OpenedTable}
use Rattle.own_images.specs.StoredContents.{stored_index}
use Rattle.laws_versions.specs.History.{EachTwo}
use Rattle.long_value.specs.Shown.{shown_values}
use Rattle.long_value.specs.Stores.{HasValues}
use Rattle.long_value.specs.Values.{LongValue, Values}
use Rattle.long_value.specs.declared.values.LongValues.{LongValues}
use Rattle.page_image.specs.Page.{Node}
use Rattle.page_space.specs.Frames.{Frames}
use Rattle.stored_variants.specs.VersionsKept.{secondary_rules}
use Rattle.table_trees.specs.LongTrees.{IsLongTree}
use Rattle.table_trees.specs.Pages.{copies, times_taken}
use Rattle.table_trees.specs.StoredTables.{StoredIndex, is_index}
use Rattle.table_trees.specs.TableParts as parts
use Rattle.table_trees.specs.declared.table.Table.{Table as Trees}
use Rattle.engine_image.proofs.Building.{each_index, node_tree, same_indexes, same_pages}
use Rattle.engine_image.proofs.RuleNumbers.{two_mapped}
use Rattle.engine_image.specs.MadeEngines.{IsSoundTable}
use Rattle.engine_image.specs.MadeTables.{Differ, IsMadeTable}

-- ---- what is there by its number is there once

abbrev one_if : Bool → ℕ
one_if b = cond b 1 0

one_more : {X : Type 0} (p : X → Bool) (x : X) (xs : List X) → count_by p (x ∷ xs) ≡ one_if (p x) + count_by p xs
one_more p x xs = sum_by-cons (λ y. one_if (p y)) x xs

none_has : {X : Type 0} (number : X → ℕ) (n : ℕ) (xs : List X) → AllByRecursion (λ x. (n == number x) ≡ false) xs → count_by (λ x. number x == n) xs ≡ 0
none_has number n [] h = refl
none_has number n (x ∷ xs) h =
    let rest : count_by (λ y. number y == n) xs ≡ 0 = none_has number n xs h.1 in
    let this : one_if (number x == n) ≡ 0 = ap one_if (unequal_turned n (number x) h.0) in
    let all : count_by (λ y. number y == n) (x ∷ xs) ≡ one_if (number x == n) + count_by (λ y. number y == n) xs = one_more (λ y. number y == n) x xs in
    omega (arith, rest, this, all)

pub there_once : {X : Type 0} (number : X → ℕ) (n : ℕ) (xs : List X) → EachTwo (λ x y. (number x == number y) ≡ false) xs → count_by (λ x. number x == n) xs ≤ 1
there_once number n [] h = omega arith
there_once {X} number n (x ∷ xs) h =
    let all : count_by (λ y. number y == n) (x ∷ xs) ≡ one_if (number x == n) + count_by (λ y. number y == n) xs = one_more (λ y. number y == n) x xs in
    by_test (number x == n)
    (λ t.
    let this : one_if (number x == n) ≡ 1 = ap one_if t in
    let rest : count_by (λ y. number y == n) xs ≡ 0 = none_has number n xs (subst (λ (k : ℕ). AllByRecursion (λ (y : X). (k == number y) ≡ false) xs) (eqb-true (number x) n t) h.0) in
    omega (arith, all, this, rest))
    (λ t.
    let this : one_if (number x == n) ≡ 0 = ap one_if t in
    let rest : count_by (λ y. number y == n) xs ≤ 1 = there_once number n xs h.1 in
    omega (arith, all, this, rest))

-- ---- its long values

pub record ValueLaws : Type 0 where
  pub whole : (frames : Frames) (table : OpenedTable) (t : TableContents) (number : ℕ) → HasContents frames table t → broken_values number t ≡ [] → HasWholeValues frames table.long_values (long_values t)
  pub store : (frames : Frames) (tree : Tree) (store : LongValues) (values : Values) → store.tree ≡ tree → HasWholeValues frames tree values → AllByRecursion (λ (row : List ℕ × LongValue). 1 ≤ row.1.count) values → HasValues frames store values

long_tree : ValueLaws → (frames : Frames) (number : ℕ) (o : OpenedTable) (t : TableContents) (made : Trees) → HasContents frames o t → IsSoundTable number t → made.long_values.store.tree ≡ o.long_values → IsLongTree frames made.long_values
long_tree laws frames number o t made has sound same =
    let nodes : nodes_of frames made.long_values.store.tree ≡ t.value_nodes = ap (nodes_of frames) same ∙ has.values_are in
    let values : shown_values (nodes_of frames made.long_values.store.tree) ≡ long_values t = ap (λ (l : List Node). shown_values l) nodes in
    subst (HasValues frames made.long_values.store) (sym values)
    (laws.store frames o.long_values made.long_values.store (long_values t) same (laws.whole frames o t number has sound.whole) sound.stored.counted)

-- ---- the table

indexes_once : (frames : Frames) (o : OpenedTable) (t : TableContents) (made : Trees) → HasContents frames o t → IsMadeTable t.table o made → EachTwo Differ (secondary_rules t.table) → (index : ℕ) → count_by (is_index index) (map (parts.stored_index frames) made.indexes.items) ≤ 1
indexes_once frames o t made has is differ index =
    subst (λ (l : List StoredIndex). count_by (is_index index) l ≤ 1) (sym (same_indexes frames o t (secondary_rules t.table) made.indexes.items has is.indexes.each))
    (there_once (λ (x : StoredIndex). x.0) index (map (stored_index t) (secondary_rules t.table)) (two_mapped (λ (x y : StoredIndex). (x.0 == y.0) ≡ false) (stored_index t) (secondary_rules t.table) differ))

pub built : ValueLaws → (frames : Frames) (number : ℕ) (o : OpenedTable) (t : TableContents) (made : Trees) → HasContents frames o t → IsSoundTable number t → IsMadeTable t.table o made → EachTwo Differ (secondary_rules t.table)
    → ((p : ℕ) → copies p (opened_pages frames o) ≤ times_taken frames p) → parts.IsTable frames made
built laws frames number o t made has sound is differ own = record {
  nodes = node_tree frames o t made has sound.stored is.nodes_is;
  long_values = long_tree laws frames number o t made has sound is.longs_is;
  indexes = All-from_recursion (parts.IsIndex frames) made.indexes.items (each_index frames o t (secondary_rules t.table) made.indexes.items has sound.stored is.indexes.each);
  pages = λ p. let bound : copies p (opened_pages frames o) ≤ times_taken frames p = own p in let same : copies p (parts.table_pages frames made) ≡ copies p (opened_pages frames o) = same_pages frames t.table o made p is in omega (arith, bound, same);
  once = indexes_once frames o t made has is differ;
}
