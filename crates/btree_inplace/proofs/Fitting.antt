-- A tree has no more nodes than its pages have places for, and no more pages than its space.
use Rattle.std.proofs.Common.{◌≡◌, ◌≢◌, ℕ, zero, suc, ◌*◌, ◌<◌, ◌≤◌, true, false, List, [], ◌∷◌, length, get_or, eqb, arith}
use Rattle.std.specs.Prelude.{AllPairs}
use Rattle.std.specs.List.{flat_map, IsDistinct, AllByRecursion}
use Rattle.std.proofs.lemmas.List.{length-append}
use Rattle.std.proofs.lemmas.Bool.Decides.{nat_tests}
use Rattle.std.proofs.lemmas.Map.Steps.{length-le_from_distinct_below}
use Rattle.std.proofs.lemmas.Map.Views.{Contains-from_any}
use Rattle.page_image.specs.Page.{PageContents, IsPage, no_node, node_at}
use Rattle.page_space.specs.Frames.{Frames}
use Rattle.btree_inplace.specs.Shape.{IsSubtree, child_of, entries, page_in, pages}
use Rattle.btree_inplace.specs.Trees.{IsTree, nodes_of, pages_of}
use Rattle.btree_inplace.specs.declared.Tree.{Tree}
use Rattle.btree_inplace.proofs.Changing.{taken_within}
use Rattle.btree_inplace.proofs.Laws.{own_is_taken}

each_fits : {X Y Z : Type 0} (f : X → List Y) (g : X → List Z) (xs : List X) (d : X) → ((k : ℕ) → k < length xs → length (f (get_or xs k d)) ≤ 677 * length (g (get_or xs k d))) → length (flat_map f xs) ≤ 677 * length (flat_map g xs)
each_fits f g [] d fits = omega arith
each_fits f g (x ∷ xs) d fits =
    omega (arith, fits 0 (omega arith), each_fits f g xs d (λ k lt. fits (suc k) (omega arith)), length-append (f x) (flat_map f xs), length-append (g x) (flat_map g xs))

pub entries_fit : ((p : PageContents) → IsPage p → length p.nodes ≤ 677) → (depth : ℕ) (frames : Frames) (page : ℕ) → IsSubtree depth frames page → length (entries depth frames page) ≤ 677 * length (pages depth frames page)
entries_fit few zero frames page tree = omega (arith, few (page_in frames page) tree.page)
entries_fit few (suc depth) frames page tree =
    let nodes = (page_in frames page).nodes in
    omega (arith, each_fits (λ n. entries depth frames (child_of n)) (λ n. pages depth frames (child_of n)) nodes no_node (λ k lt. entries_fit few depth frames (child_of (node_at nodes k)) (tree.2 k lt)))

different : (x y : ℕ) → x ≢ y → eqb x y ≡ false
different x y n = grind (arith, nat_tests)

same : (x y : ℕ) → eqb x y ≡ true → x ≡ y
same x y e = grind (arith, nat_tests)

apart : (x : ℕ) (xs : List ℕ) → ((j d : ℕ) → j < length xs → x ≢ get_or xs j d) → AllByRecursion (λ y. eqb x y ≡ false) xs
apart x [] ne = tt
apart x (y ∷ ys) ne = (different x y (ne 0 x (omega arith)), apart x ys (λ j d lt. ne (suc j) d (omega arith)))

distinct : (xs : List ℕ) → AllPairs (λ a b. a ≢ b) xs → IsDistinct eqb xs
unfolding IsDistinct
distinct [] once = tt
distinct (x ∷ xs) once =
    (apart x xs (λ j d lt. once 0 (suc j) d (omega arith) (omega arith)), distinct xs (λ i j d lt h. once (suc i) (suc j) d (omega arith) (omega arith)))

-- the pages of a tree are distinct pages of its space
pub pages_fit : (frames : Frames) (tree : Tree) → IsTree frames tree → length (pages_of frames tree) ≤ length frames
pages_fit frames tree is =
    length-le_from_distinct_below (pages_of frames tree) (length frames) (distinct (pages_of frames tree) is.once)
    (λ q there. taken_within frames q (own_is_taken frames tree q is (Contains-from_any same q (pages_of frames tree) there)))

pub nodes_fit : ((p : PageContents) → IsPage p → length p.nodes ≤ 677) → (frames : Frames) (tree : Tree) → IsTree frames tree → length (nodes_of frames tree) ≤ 677 * length frames
nodes_fit few frames tree is = omega (arith, entries_fit few tree.depth frames tree.root is.shape, pages_fit frames tree is)
