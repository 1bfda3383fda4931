-- The tables of a catalog, the roots of their trees and what the trees hold, one by one.
use Rattle.std.proofs.Common.{◌≡◌, ℕ, List, [], ◌∷◌, Option, Some, length, refl, sym, ap, subst, ◌∙◌, arith}
use Rattle.std.specs.Prelude.{find, map, unwrap_or}
use Rattle.std.specs.List.{AllByRecursion, flat_map}
use Rattle.std.specs.Option.{option_map}
use Rattle.std.proofs.lemmas.Grind.{flat_map-append}
use Rattle.catalog_grammar.specs.CatalogSteps.{Roots, rooted, rooted_tables}
use Rattle.catalog_grammar.specs.Catalogs.{TableRoots, catalog_table}
use Rattle.database_state.specs.Table.{Table}
use Rattle.laws_images.specs.SoundStates.{IsSoundTable}
use Rattle.laws_versions.specs.History.{EachTwo}
use Rattle.laws_versions.specs.TableOrder.{IdsRise}
use Rattle.page_space.specs.Frames.{Frames}
use Rattle.stored_variants.specs.VersionsKept.{needed_trees, secondary_rules, tree_numbers}
use Rattle.table_trees.specs.StoredTables.{StoredIndex, StoredTable, is_table}
use Rattle.table_trees.specs.StoredTrees.{StoredRoots, are_roots_of, no_roots, roots_by_number, told_roots}
use Rattle.table_trees.specs.TreesInSpace.{AreRootsOfIndexes, AreRootsOfTable, AreRootsOfTables, roots_of_table}
use Rattle.tree_check.specs.Marks.{copies}
use Rattle.image_findings.specs.CatalogFindings.{roots_of}
use Rattle.own_images.proofs.Differing.{each_mapped, found_each}
use Rattle.own_images.proofs.MarkCounts.{copies-append}
use Rattle.own_images.proofs.RootSums.{Unequal, number_of_rule, same_roots}
use Rattle.own_images.proofs.SoundParts.{ids_differ}

-- ---- in the same place

pub record IsOne (frames : Frames) (t : Table) (r : StoredRoots) (s : StoredTable) : Type 0 where
  pub roots_number : r.number ≡ t.id
  pub trees_number : s.number ≡ t.id
  pub indexes : map (λ (x : StoredIndex). x.0) s.indexes ≡ map number_of_rule (secondary_rules t)
  pub roots : map (λ (x : ℕ × ℕ). x.0) r.indexes ≡ map number_of_rule (secondary_rules t)
  pub trees : AreRootsOfTable frames r s

abbrev pub AreTogether : Frames → List Table → List StoredRoots → List StoredTable → Type 0
AreTogether frames [] [] [] = Unit {0}
AreTogether frames (t ∷ ts) (r ∷ rs) (s ∷ ss) = IsOne frames t r s × AreTogether frames ts rs ss
AreTogether frames _ _ _ = ⊥

numbers_of_roots : (frames : Frames) (roots : List (ℕ × ℕ)) (indexes : List StoredIndex) → AreRootsOfIndexes frames roots indexes → map (λ (x : ℕ × ℕ). x.0) roots ≡ map (λ (x : StoredIndex). x.0) indexes
numbers_of_roots frames [] [] h = refl
numbers_of_roots frames [] (x ∷ indexes) h = absurd h
numbers_of_roots frames (x ∷ roots) [] h = absurd h
numbers_of_roots frames (x ∷ roots) (y ∷ indexes) h = λ i. h.0.2 i ∷ numbers_of_roots frames roots indexes h.1 i

abbrev first_or : {X : Type 0} → X → List X → X
first_or d [] = d
first_or d (x ∷ xs) = x

abbrev rest_of : {X : Type 0} → List X → List X
rest_of [] = []
rest_of (x ∷ xs) = xs

abbrev Numbers : Type 0
Numbers = ℕ × List ℕ

one : (frames : Frames) (t : Table) (r : StoredRoots) (s : StoredTable) → tree_numbers s ≡ needed_trees t → AreRootsOfTable frames r s → IsOne frames t r s
one frames t r s e trees =
    let numbers : map (λ (x : StoredIndex). x.0) s.indexes ≡ map number_of_rule (secondary_rules t) = ap (λ (x : Numbers). x.1) e in
    record {
      roots_number = trees.number ∙ ap (λ (x : Numbers). x.0) e;
      trees_number = ap (λ (x : Numbers). x.0) e;
      indexes = numbers;
      roots = numbers_of_roots frames r.indexes s.indexes trees.indexes ∙ numbers;
      trees = trees;
    }

pub together : (frames : Frames) (ts : List Table) (rs : List StoredRoots) (ss : List StoredTable) → map tree_numbers ss ≡ map needed_trees ts → AreRootsOfTables frames rs ss → AreTogether frames ts rs ss
together frames [] [] [] e trees = tt
together frames (t ∷ ts) [] [] e trees = absurd (omega (arith, ap (λ (l : List Numbers). length l) e))
together frames ts [] (s ∷ ss) e trees = absurd trees
together frames ts (r ∷ rs) [] e trees = absurd trees
together frames [] (r ∷ rs) (s ∷ ss) e trees = absurd (omega (arith, ap (λ (l : List Numbers). length l) e))
together frames (t ∷ ts) (r ∷ rs) (s ∷ ss) e trees = (
  one frames t r s (ap (first_or (needed_trees t)) e) trees.0,
  together frames ts rs ss (ap rest_of e) trees.1,
)

-- ---- found by their numbers

each_unmapped : {X Y : Type 0} (R : Y → Y → Type 0) (f : X → Y) (xs : List X) → EachTwo R (map f xs) → EachTwo (λ x y. R (f x) (f y)) xs
each_unmapped R f [] h = tt
each_unmapped {X = X} {Y = Y} R f (x ∷ xs) h = (unmapped xs h.0, each_unmapped R f xs h.1)
  where
    unmapped : (ys : List X) → AllByRecursion (R (f x)) (map f ys) → AllByRecursion (λ y. R (f x) (f y)) ys
    unmapped [] a = tt
    unmapped (y ∷ ys) a = (a.0, unmapped ys a.1)

abbrev number_of_roots : StoredRoots → ℕ
number_of_roots r = r.number

abbrev number_of_trees : StoredTable → ℕ
number_of_trees s = s.number

abbrev number_of_table : Table → ℕ
number_of_table t = t.id

roots_numbers : (frames : Frames) (ts : List Table) (rs : List StoredRoots) (ss : List StoredTable) → AreTogether frames ts rs ss → map number_of_roots rs ≡ map number_of_table ts
roots_numbers frames [] [] [] h = refl
roots_numbers frames (t ∷ ts) (r ∷ rs) (s ∷ ss) h = λ i. h.0.roots_number i ∷ roots_numbers frames ts rs ss h.1 i
roots_numbers frames [] [] (s ∷ ss) h = absurd h
roots_numbers frames [] (r ∷ rs) ss h = absurd h
roots_numbers frames (t ∷ ts) [] ss h = absurd h
roots_numbers frames (t ∷ ts) (r ∷ rs) [] h = absurd h

pub trees_numbers : (frames : Frames) (ts : List Table) (rs : List StoredRoots) (ss : List StoredTable) → AreTogether frames ts rs ss → map number_of_trees ss ≡ map number_of_table ts
trees_numbers frames [] [] [] h = refl
trees_numbers frames (t ∷ ts) (r ∷ rs) (s ∷ ss) h = λ i. h.0.trees_number i ∷ trees_numbers frames ts rs ss h.1 i
trees_numbers frames [] [] (s ∷ ss) h = absurd h
trees_numbers frames [] (r ∷ rs) ss h = absurd h
trees_numbers frames (t ∷ ts) [] ss h = absurd h
trees_numbers frames (t ∷ ts) (r ∷ rs) [] h = absurd h

-- the roots and the trees of a table are those that its number finds
pub record IsFoundHere (all_roots : List StoredRoots) (all_trees : List StoredTable) (t : Table) (r : StoredRoots) (s : StoredTable) : Type 0 where
  pub roots : roots_by_number all_roots t.id ≡ told_roots r
  pub trees : find (is_table t.id) all_trees ≡ Some s

abbrev pub AreFoundHere : List StoredRoots → List StoredTable → List Table → List StoredRoots → List StoredTable → Type 0
AreFoundHere all_roots all_trees [] [] [] = Unit {0}
AreFoundHere all_roots all_trees (t ∷ ts) (r ∷ rs) (s ∷ ss) = IsFoundHere all_roots all_trees t r s × AreFoundHere all_roots all_trees ts rs ss
AreFoundHere all_roots all_trees _ _ _ = ⊥

here : (frames : Frames) (all_roots : List StoredRoots) (all_trees : List StoredTable) (ts : List Table) (rs : List StoredRoots) (ss : List StoredTable) → AreTogether frames ts rs ss
    → AllByRecursion (λ r. find (are_roots_of r.number) all_roots ≡ Some r) rs → AllByRecursion (λ s. find (is_table s.number) all_trees ≡ Some s) ss → AreFoundHere all_roots all_trees ts rs ss
here frames all_roots all_trees [] [] [] h a b = tt
here frames all_roots all_trees (t ∷ ts) (r ∷ rs) (s ∷ ss) h a b = (
  record {
    roots = ap (λ (o : Option StoredRoots). unwrap_or (option_map told_roots o) no_roots) (subst (λ (n : ℕ). find (are_roots_of n) all_roots ≡ Some r) h.0.roots_number a.0);
    trees = subst (λ (n : ℕ). find (is_table n) all_trees ≡ Some s) h.0.trees_number b.0;
  },
  here frames all_roots all_trees ts rs ss h.1 a.1 b.1,
)
here frames all_roots all_trees [] [] (s ∷ ss) h a b = absurd h
here frames all_roots all_trees [] (r ∷ rs) ss h a b = absurd h
here frames all_roots all_trees (t ∷ ts) [] ss h a b = absurd h
here frames all_roots all_trees (t ∷ ts) (r ∷ rs) [] h a b = absurd h

pub all_found_here : (frames : Frames) (ts : List Table) (rs : List StoredRoots) (ss : List StoredTable) → EachTwo IdsRise ts → AreTogether frames ts rs ss → AreFoundHere rs ss ts rs ss
all_found_here frames ts rs ss rise h =
    let ids = each_mapped Unequal number_of_table ts (ids_differ ts rise) in
    here frames rs ss ts rs ss h
    (found_each number_of_roots rs (each_unmapped Unequal number_of_roots rs (subst (λ (l : List ℕ). EachTwo Unequal l) (sym (roots_numbers frames ts rs ss h)) ids)))
    (found_each number_of_trees ss (each_unmapped Unequal number_of_trees ss (subst (λ (l : List ℕ). EachTwo Unequal l) (sym (trees_numbers frames ts rs ss h)) ids)))

-- ---- all roots

pub same_in_all : (f : ℕ → List ℕ) (p : ℕ) (frames : Frames) (all_roots : List StoredRoots) (all_trees : List StoredTable) (ts : List Table) (rs : List StoredRoots) (ss : List StoredTable)
    → AreTogether frames ts rs ss → AreFoundHere all_roots all_trees ts rs ss → AllByRecursion IsSoundTable ts
    → copies p (flat_map f (flat_map roots_of (rooted_tables (roots_by_number all_roots) ts))) ≡ copies p (flat_map f (flat_map roots_of_table rs))
same_in_all f p frames all_roots all_trees [] [] [] h found sound = refl
same_in_all f p frames all_roots all_trees (t ∷ ts) (r ∷ rs) (s ∷ ss) h found sound =
    let told = rooted (roots_by_number all_roots) t in
    let others = flat_map roots_of (rooted_tables (roots_by_number all_roots) ts) in
    let first : copies p (flat_map f (roots_of told)) ≡ copies p (flat_map f (roots_of_table r)) =
    ap (λ (x : TableRoots). copies p (flat_map f (roots_of (catalog_table (t, x))))) found.0.roots ∙ same_roots f p r t h.0.roots sound.0.indexes_differ in
    omega (
      arith,
      first,
      same_in_all f p frames all_roots all_trees ts rs ss h.1 found.1 sound.1,
      ap (copies p) (flat_map-append f (roots_of told) others),
      copies-append p (flat_map f (roots_of told)) (flat_map f others),
      ap (copies p) (flat_map-append f (roots_of_table r) (flat_map roots_of_table rs)),
      copies-append p (flat_map f (roots_of_table r)) (flat_map f (flat_map roots_of_table rs)),
    )
same_in_all f p frames all_roots all_trees [] [] (s ∷ ss) h found sound = absurd h
same_in_all f p frames all_roots all_trees [] (r ∷ rs) ss h found sound = absurd h
same_in_all f p frames all_roots all_trees (t ∷ ts) [] ss h found sound = absurd h
same_in_all f p frames all_roots all_trees (t ∷ ts) (r ∷ rs) [] h found sound = absurd h
