-- The trees of a store are found below the roots that its catalog tells, and have all pages that are taken.
use Rattle.std.proofs.Common.{◌≡◌, ℕ, ◌+◌, ◌<◌, ◌≤◌, inl, inr, Bool, List, [], ◌∷◌, ◌++◌, None, refl, sym, ap, subst, ◌∙◌, arith}
use Rattle.std.specs.Prelude.{All, map}
use Rattle.std.specs.List.{AllByRecursion, flat_map}
use Rattle.std.proofs.lemmas.Bool.{cases_eq}
use Rattle.std.proofs.lemmas.List.Elements.{recursion_from_All}
use Rattle.btree_inplace.specs.Shape.{IsSubtree, entries, pages}
use Rattle.btree_inplace.specs.declared.TheConstants.{MAX_DEPTH}
use Rattle.page_image.specs.Page.{Node}
use Rattle.page_space.specs.Frames.{Frames}
use Rattle.table_trees.specs.TreesInSpace.{AreRootsOfAllPages, IsRootOf, TreePlace, place_pages, roots_of_table}
use Rattle.tree_check.specs.Marks.{copies}
use Rattle.tree_check.specs.Walks.{tree_depth}
use Rattle.image_findings.specs.CatalogFindings.{roots_of}
use Rattle.image_findings.specs.Findings.{roots_told}
use Rattle.image_findings.specs.TreeFindings.{no_marks, nodes_below, pages_below, trees_finding, unowned_from, marks_after}
use Rattle.own_images.proofs.MarkCounts.{copies-append, copies-cons, copies-other, copies-same}
use Rattle.own_images.proofs.ReadBack.{parts}
use Rattle.own_images.proofs.Together.{AreFoundHere, AreTogether, all_found_here, same_in_all, together}
use Rattle.own_images.proofs.Walked.{AreAllPages, IsFound, WalkLaws, first_none, others_none, pages_none}
use Rattle.own_images.specs.OwnStores.{IsOwnStore, OwnStore, own_marks, told_of}

-- ---- places

record FoundPlaces (frames : Frames) (places : List TreePlace) : Type 0 where
  found : AllByRecursion (IsFound frames) (map (λ (x : TreePlace). x.root) places)
  pages : flat_map (place_pages frames) places ≡ flat_map (pages_below frames) (map (λ (x : TreePlace). x.root) places)

abbrev IsShaped : Frames → TreePlace → Type 0
IsShaped frames place = (place.depth ≤ MAX_DEPTH) × IsSubtree place.depth frames place.root

found_places : WalkLaws → (frames : Frames) (places : List TreePlace) → AllByRecursion (IsShaped frames) places → FoundPlaces frames places
found_places laws frames [] shapes = record { found = tt; pages = refl }
found_places laws frames (x ∷ places) shapes =
    let rest = found_places laws frames places shapes.1 in
    let depth_is : x.depth ≡ tree_depth frames x.root = sym (laws.depth frames x.root x.depth shapes.0.1 shapes.0.0) in
    record {
      found = (record { depth = x.depth; shape = shapes.0.1; deep = shapes.0.0 }, rest.found);
      pages = λ i. pages (depth_is i) frames x.root ++ rest.pages i;
    }

pub record FoundRoots (frames : Frames) (roots : List ℕ) : Type 0 where
  pub found : AllByRecursion (IsFound frames) roots
  pub whole : AreAllPages frames roots

found_roots : WalkLaws → (frames : Frames) (roots : List ℕ) → AreRootsOfAllPages frames roots → FoundRoots frames roots
found_roots laws frames roots a =
    let at = found_places laws frames a.places (recursion_from_All (IsShaped frames) a.places a.shapes) in
    record {
      found = subst (λ (l : List ℕ). AllByRecursion (IsFound frames) l) a.roots_are at.found;
      whole = λ p. ap (λ (l : List ℕ). copies p (flat_map (pages_below frames) l)) (sym a.roots_are) ∙ ap (copies p) (sym at.pages) ∙ a.forest p;
    }

-- ---- the same roots in another order

one_of : (P : ℕ → Type 0) (xs : List ℕ) → AllByRecursion P xs → (r : ℕ) → 0 < copies r xs → P r
one_of P [] all r some = absurd (omega (arith, some))
one_of P (x ∷ xs) all r some = elim (cases_eq x r) [
  | inl at ↦ subst P at all.0
  | inr ne ↦ one_of P xs all.1 r (omega (arith, some, copies-cons r x xs, copies-other r x ne))
]

each_of : (P : ℕ → Type 0) (xs : List ℕ) → ((r : ℕ) → 0 < copies r xs → P r) → AllByRecursion P xs
each_of P [] h = tt
each_of P (x ∷ xs) h = (h x (omega (arith, copies-cons x x xs, copies-same x x refl)), each_of P xs (λ r some. h r (omega (arith, some, copies-cons r x xs))))

singles : (xs : List ℕ) → flat_map (λ x. x ∷ []) xs ≡ xs
singles [] = refl
singles (x ∷ xs) = ap (λ (l : List ℕ). x ∷ l) (singles xs)

-- ---- the store

abbrev kept_roots : OwnStore → List ℕ
kept_roots store = flat_map roots_of_table store.trees.catalog.roots

pub tables_together : (store : OwnStore) → IsOwnStore store → AreTogether store.frames store.catalog.tables store.trees.catalog.roots store.trees.tables
tables_together store own = together store.frames store.catalog.tables store.trees.catalog.roots store.trees.tables own.kept.kept.numbers own.trees.tables

pub found_here : (store : OwnStore) → IsOwnStore store → AreFoundHere store.trees.catalog.roots store.trees.tables store.catalog.tables store.trees.catalog.roots store.trees.tables
found_here store own = all_found_here store.frames store.catalog.tables store.trees.catalog.roots store.trees.tables (parts store own).ids (tables_together store own)

same_told : (f : ℕ → List ℕ) (p : ℕ) (store : OwnStore) → IsOwnStore store → copies p (flat_map f (roots_told (told_of store))) ≡ copies p (flat_map f (kept_roots store))
same_told f p store own =
    same_in_all f p store.frames store.trees.catalog.roots store.trees.tables store.catalog.tables store.trees.catalog.roots store.trees.tables (tables_together store own) (found_here store own) (parts store own).tables

pub own_roots : WalkLaws → (store : OwnStore) → IsOwnStore store → FoundRoots store.frames (store.root ∷ roots_told (told_of store))
own_roots laws store own =
    let kept = found_roots laws store.frames (store.root ∷ kept_roots store) own.trees.pages in
    let told = roots_told (told_of store) in
    record {
      found = (
        kept.found.0,
        each_of (IsFound store.frames) told (λ r some.
            one_of (IsFound store.frames) (kept_roots store) kept.found.1 r (omega (arith, some, same_told (λ x. x ∷ []) r store own, ap (copies r) (singles told), ap (copies r) (singles (kept_roots store))))),
      );
      whole = λ p. omega (
        arith,
        kept.whole p,
        same_told (pages_below store.frames) p store own,
        copies-append p (pages_below store.frames store.root) (flat_map (pages_below store.frames) (kept_roots store)),
        copies-append p (pages_below store.frames store.root) (flat_map (pages_below store.frames) told),
      );
    }

pub nodes_at : WalkLaws → (frames : Frames) (root : ℕ) (nodes : List Node) → IsRootOf frames root nodes → nodes_below frames root ≡ nodes
nodes_at laws frames root nodes at = ap (λ (d : ℕ). entries d frames root) (laws.depth frames root at.0 at.2 at.1) ∙ at.3

-- ---- no finding

pub catalog_tree : WalkLaws → (store : OwnStore) → IsOwnStore store → trees_finding store.frames (store.root ∷ []) (no_marks store.frames) ≡ None
catalog_tree laws store own = let r = own_roots laws store own in first_none laws store.frames store.root (roots_told (told_of store)) r.found r.whole

pub catalog_nodes_are : WalkLaws → (store : OwnStore) → IsOwnStore store → nodes_below store.frames store.root ≡ store.trees.catalog.nodes
catalog_nodes_are laws store own = nodes_at laws store.frames store.root store.trees.catalog.nodes own.trees.catalog

pub table_trees : WalkLaws → (store : OwnStore) → IsOwnStore store → trees_finding store.frames (roots_told (told_of store)) (own_marks store) ≡ None
table_trees laws store own = let r = own_roots laws store own in others_none laws store.frames store.root (roots_told (told_of store)) r.found r.whole

pub own_pages : WalkLaws → (store : OwnStore) → IsOwnStore store → unowned_from 0 store.frames (marks_after store.frames (roots_told (told_of store)) (own_marks store)) ≡ None
own_pages laws store own = let r = own_roots laws store own in pages_none store.frames store.root (roots_told (told_of store)) r.whole
