-- A tree of one page has no inner page above it.
use Rattle.std.proofs.Common.{◌≡◌, ℕ, zero, suc, ◌<◌, List, [], ◌∷◌, length, refl, sym, ap, subst, ◌∙◌, arith}
use Rattle.std.specs.Prelude.{◌≢◌, AllPairs}
use Rattle.std.specs.List.{flat_map}
use Rattle.page_image.specs.Page.{Node}
use Rattle.page_space.specs.Frames.{Frames}
use Rattle.btree_inplace.specs.Shape.{IsSubtree, child_of, pages}
use Rattle.btree_inplace.specs.Trees.{IsTree, pages_of}
use Rattle.btree_inplace.specs.declared.Tree.{Tree}
use Rattle.tests_trees.proofs.trees.found_again.Goals as goal

-- nodes of an inner page have pages below them
some_page : (depth : ℕ) (frames : Frames) (nodes : List Node) → 0 < length nodes → 0 < length (flat_map (λ n. pages depth frames (child_of n)) nodes)
some_page depth frames [] some = some
some_page zero frames (x ∷ xs) some = omega arith
some_page (suc depth) frames (x ∷ xs) some = omega arith

no_depth : (depth : ℕ) (frames : Frames) (root : ℕ) → IsSubtree depth frames root → length (pages depth frames root) ≡ 1 → depth ≡ 0
no_depth zero frames root shape one = refl
no_depth (suc depth) frames root shape one = absurd (omega (arith, one, some_page depth frames _ shape.1.some))

found : (frames : Frames) (tree again : Tree) → IsTree frames tree → length (pages_of frames tree) ≡ 1 → again.root ≡ tree.root → again.depth ≡ 0 → IsTree frames again
found frames tree again is one root depth =
    let same : tree.depth ≡ again.depth = no_depth tree.depth frames tree.root is.shape one ∙ sym depth in
    record {
      shape = subst (λ (d : ℕ). IsSubtree d frames again.root) same (subst (λ (r : ℕ). IsSubtree tree.depth frames r) (sym root) is.shape);
      once = subst (λ (d : ℕ). AllPairs (λ p q. p ≢ q) (pages d frames again.root)) same (subst (λ (r : ℕ). AllPairs (λ p q. p ≢ q) (pages tree.depth frames r)) (sym root) is.once);
      deep = omega (depth, arith);
    }

pub returns-then-page_count-eq1 : goal.returns-then-page_count-eq1
returns-then-page_count-eq1 c =
    found c.args.space.now c.args.tree.now c.at.result c.requires (omega (arith, c.page_count.ensures, c.if-page_count-eq1.true)) (c.at.ensures.root ∙ c.root.ensures) c.at.ensures.depth
