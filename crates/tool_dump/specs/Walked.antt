-- A tree that was walked from its root page on, and the heads of the long values below some of its children.
use Rattle.std.specs.Prelude.{◌≡◌, ◌*◌, ◌≤◌, ℕ, Bool, List, length}
use Rattle.btree_inplace.specs.Shape.{IsSubtree}
use Rattle.btree_inplace.specs.declared.Tree.{Tree}
use Rattle.page_image.specs.declared.offsets.TheConstants.{MAX_NODES}
use Rattle.page_space.specs.Frames.{Frames}
use Rattle.tree_check.specs.Marks.{with_marks}
use Rattle.image_findings.specs.TreeFindings.{nodes_below, pages_below}
use Rattle.image_opening.specs.WalkedTrees.{IsTreeBelow}

-- It is the one below the root page, with so many inner pages above each leaf, and its pages are marked.
pub record IsWalked (frames : Frames) (root : ℕ) (tree : Tree) (depth : ℕ) (before after : List Bool) : Type 0 where
  pub below : IsTreeBelow frames root tree
  pub shape : IsSubtree depth frames root
  pub depth_is : depth ≡ tree.depth
  pub few : length (nodes_below frames root) ≤ MAX_NODES * 16777216
  pub marks : after ≡ with_marks (pages_below frames root) before
