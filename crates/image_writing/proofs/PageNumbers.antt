-- Each page of a tree bears its number, and so does each page of a space in which trees stand.
use Rattle.std.proofs.Common.{◌≡◌, ◌≢◌, ℕ, zero, suc, ◌+◌, ◌<◌, ◌≤◌, ◌⊎◌, inl, inr, Bool, true, false, cond, List, [], ◌∷◌, ◌++◌, Option, Some, None, length, refl, sym, ap, subst, ◌∙◌, arith}
use Rattle.std.specs.Prelude.{◌==◌, MatchOption, is_some, unwrap_or, if◌then◌else◌}
use Rattle.std.specs.List.{AllByRecursion, flat_map}
use Rattle.std.proofs.lemmas.Bool.{cases_eq}
use Rattle.std.proofs.lemmas.Bool.Decides.{nat_tests}
use Rattle.std.proofs.lemmas.List.Elements.{recursion_from_All}
use Rattle.std.proofs.lemmas.List.Sums.{sum_by-append, sum_by-cons}
use Rattle.btree_inplace.specs.Shape.{IsSubtree, child_of, page_in, pages}
use Rattle.btree_inplace.specs.declared.TheConstants.{MAX_DEPTH}
use Rattle.checkpoint.specs.Shape.{HasOwnNumber}
use Rattle.page_image.specs.Page.{Node, PageContents, node_at}
use Rattle.page_space.specs.Frames.{Frames, empty_page, page_at}
use Rattle.table_trees.specs.Pages.{copies}
use Rattle.table_trees.specs.TreesInSpace.{AreRootsOfAllPages, TreePlace, place_pages}

-- ---- counts

copies-append : (p : ℕ) (xs ys : List ℕ) → copies p (xs ++ ys) ≡ copies p xs + copies p ys
copies-append p xs ys = sum_by-append (λ r. cond (r == p) 1 0) xs ys

copies-cons : (p q : ℕ) (xs : List ℕ) → copies p (q ∷ xs) ≡ copies p (q ∷ []) + copies p xs
copies-cons p q xs = omega (arith, sum_by-cons (λ r. cond (r == p) 1 0) q xs, sum_by-cons (λ r. cond (r == p) 1 0) q [])

copies-other : (p q : ℕ) → q ≢ p → copies p (q ∷ []) ≡ 0
copies-other p q ne = sum_by-cons (λ r. cond (r == p) 1 0) q [] ∙ ap (λ b. cond b 1 0 + 0) (unequal p q ne)
  where
    unequal : (p q : ℕ) → q ≢ p → (q == p) ≡ false
    unequal p q ne = grind (arith, nat_tests)

none_or_some : (n : ℕ) → (n ≡ 0) ⊎ (0 < n)
none_or_some zero = inl refl
none_or_some (suc n) = inr (omega arith)

abbrev Bears : Frames → ℕ → Type 0
Bears frames p = (page_in frames p).number ≡ p

-- ---- below a page

abbrev IsBelow : ℕ → Frames → ℕ → ℕ → Type 0
IsBelow p frames depth root = IsSubtree depth frames root → 0 < copies p (pages depth frames root) → Bears frames p

among : (p : ℕ) (frames : Frames) (depth : ℕ) → ((root : ℕ) → IsBelow p frames depth root) → (nodes : List Node) → ((i : ℕ) → i < length nodes → IsSubtree depth frames (child_of (node_at nodes i)))
    → 0 < copies p (flat_map (λ n. pages depth frames (child_of n)) nodes) → Bears frames p
among p frames depth each [] h some = absurd (omega (arith, some))
among p frames depth each (n ∷ nodes) h some = elim (none_or_some (copies p (pages depth frames (child_of n)))) [
  | inl none ↦
      among p frames depth each nodes (λ i lt. h (suc i) (omega (arith, lt)))
      (omega (arith, some, none, copies-append p (pages depth frames (child_of n)) (flat_map (λ n. pages depth frames (child_of n)) nodes)))
  | inr there ↦ each (child_of n) (h 0 (omega arith)) there
]

below : (p : ℕ) (frames : Frames) (depth root : ℕ) → IsBelow p frames depth root
below p frames zero root h some = elim (cases_eq root p) [
  | inl at ↦ subst (Bears frames) at h.number
  | inr apart ↦ absurd (omega (arith, some, copies-other p root apart))
]
below p frames (suc depth) root h some = elim (cases_eq root p) [
  | inl at ↦ subst (Bears frames) at h.0.number
  | inr apart ↦
      among p frames depth (below p frames depth) (page_in frames root).nodes h.2
      (omega (arith, some, copies-other p root apart, copies-cons p root (flat_map (λ n. pages depth frames (child_of n)) (page_in frames root).nodes)))
]

-- ---- in a space

abbrev IsShaped : Frames → TreePlace → Type 0
IsShaped frames place = (place.depth ≤ MAX_DEPTH) × IsSubtree place.depth frames place.root

in_places : (p : ℕ) (frames : Frames) (places : List TreePlace) → AllByRecursion (IsShaped frames) places → 0 < copies p (flat_map (place_pages frames) places) → Bears frames p
in_places p frames [] shapes some = absurd (omega (arith, some))
in_places p frames (x ∷ places) shapes some = elim (none_or_some (copies p (place_pages frames x))) [
  | inl none ↦ in_places p frames places shapes.1 (omega (arith, some, none, copies-append p (place_pages frames x) (flat_map (place_pages frames) places)))
  | inr there ↦ below p frames x.depth x.root shapes.0.1 there
]

pub own_number : (frames : Frames) (roots : List ℕ) → AreRootsOfAllPages frames roots → (p : ℕ) → HasOwnNumber frames p
own_number frames roots all p = by (page_at frames p) refl
  where
    shapes : AllByRecursion (IsShaped frames) all.places
    shapes = recursion_from_All (IsShaped frames) all.places all.shapes

    once : (page : PageContents) → page_at frames p ≡ Some page → copies p (flat_map (place_pages frames) all.places) ≡ 1
    once page e = all.forest p ∙ ap (λ (o : Option PageContents). if is_some o then 1 else 0) e

    by : (o : Option PageContents) → page_at frames p ≡ o → HasOwnNumber frames p
    by None e = subst (λ (o : Option PageContents). MatchOption o (Unit {0}) (λ page. page.number ≡ p)) (sym e) tt
    by (Some page) e =
        subst (λ (o : Option PageContents). MatchOption o (Unit {0}) (λ page. page.number ≡ p)) (sym e)
        (ap (λ (o : Option PageContents). (unwrap_or o (empty_page p)).number) (sym e) ∙ in_places p frames all.places shapes (omega (arith, once page e)))
