-- How often a page is among some, and that the pages of a tree are taken.
use Rattle.std.proofs.Common.{◌≡◌, ℕ, zero, suc, ◌+◌, ◌<◌, inl, inr, Bool, true, false, Option, Some, None, List, [], ◌∷◌, ◌++◌, length, cond, refl, ap, subst, ◌∙◌, arith}
use Rattle.std.specs.Prelude.{◌==◌, IsSome, is_some}
use Rattle.std.specs.List.{flat_map}
use Rattle.std.proofs.lemmas.Bool.{cases_lt}
use Rattle.std.proofs.lemmas.Bool.Decides.{nat_tests}
use Rattle.std.proofs.lemmas.List.Sums.{sum_by-append, sum_by-cons}
use Rattle.common_lemmas.proofs.Booleans.{by_test, impossible}
use Rattle.btree_inplace.specs.Shape.{IsSubtree, child_of, page_in, pages}
use Rattle.page_image.specs.Page.{Node, PageContents, node_at}
use Rattle.page_space.specs.Frames.{Frames, page_at}
use Rattle.tree_check.specs.Marks.{copies}
use Rattle.image_opening.specs.WalkedTrees.{AreTaken}
use Rattle.image_opening.proofs.OnceEach.{times-cons}

pub copies-append : (p : ℕ) (xs ys : List ℕ) → copies p (xs ++ ys) ≡ copies p xs + copies p ys
copies-append p xs ys = sum_by-append (λ r. cond (r == p) 1 0) xs ys

copies-other : (p q : ℕ) → (q == p) ≡ false → copies p (q ∷ []) ≡ 0
copies-other p q e = sum_by-cons (λ r. cond (r == p) 1 0) q [] ∙ ap (λ b. cond b 1 0 + 0) e

equal : (m n : ℕ) → (m == n) ≡ true → m ≡ n
equal m n e = grind (arith, nat_tests, e)

-- ---- pages that are taken

pub none_taken : (frames : Frames) → AreTaken frames []
none_taken frames p h = absurd (omega (arith, h))

pub both_taken : (frames : Frames) (xs ys : List ℕ) → AreTaken frames xs → AreTaken frames ys → AreTaken frames (xs ++ ys)
both_taken frames xs ys h k p some = elim (cases_lt 0 (copies p xs)) [
  | inl first ↦ h p first
  | inr few ↦ k p (omega (arith, some, few, copies-append p xs ys))
]

one_taken : (frames : Frames) (page : ℕ) (rest : List ℕ) → is_some (page_at frames page) ≡ true → AreTaken frames rest → AreTaken frames (page ∷ rest)
one_taken frames page rest taken h p some =
    by_test (page == p)
    (λ yes. subst (λ (q : ℕ). is_some (page_at frames q) ≡ true) (equal page p yes) taken)
    (λ refuted. h p (omega (arith, some, times-cons p page rest, copies-other p page refuted)))

there : (o : Option PageContents) → IsSome o → is_some o ≡ true
there None h = impossible h
there (Some x) h = refl

children_taken : (frames : Frames) (below : ℕ → List ℕ) (Good : ℕ → Type 0) → ((page : ℕ) → Good page → AreTaken frames (below page)) → (nodes : List Node) → ((i : ℕ) → i < length nodes → Good (child_of (node_at nodes i)))
    → AreTaken frames (flat_map (λ (n : Node). below (child_of n)) nodes)
children_taken frames below Good each [] good = none_taken frames
children_taken frames below Good each (n ∷ nodes) good =
    both_taken frames (below (child_of n)) (flat_map (λ (m : Node). below (child_of m)) nodes) (each (child_of n) (good 0 (omega arith)))
    (children_taken frames below Good each nodes (λ i lt. good (suc i) (omega (arith, lt))))

pub tree_taken : (depth : ℕ) (frames : Frames) (page : ℕ) → IsSubtree depth frames page → AreTaken frames (pages depth frames page)
tree_taken zero frames page s = one_taken frames page [] (there (page_at frames page) s.taken) (none_taken frames)
tree_taken (suc depth) frames page s =
    one_taken frames page (flat_map (λ (n : Node). pages depth frames (child_of n)) (page_in frames page).nodes) (there (page_at frames page) s.0.taken)
    (children_taken frames (pages depth frames) (IsSubtree depth frames) (tree_taken depth frames) (page_in frames page).nodes s.2)
