-- Trees that are walked one after another, with a mark for each of their pages, and what is found first of them.
use Rattle.std.specs.Prelude.{◌≡◌, ℕ, ◌+◌, ◌<◌, Bool, true, List, Option, None, is_some}
use Rattle.std.specs.List.{flat_map}
use Rattle.std.specs.Option.{option_or}
use Rattle.btree_inplace.specs.Trees.{IsTree, nodes_of, pages_of}
use Rattle.btree_inplace.specs.declared.Tree.{Tree}
use Rattle.page_space.specs.Frames.{Frames, page_at}
use Rattle.tree_check.specs.Marks.{copies, times_marked}
use Rattle.image_findings.specs.Images.{Finding}
use Rattle.image_findings.specs.TreeFindings.{marks_after, no_marks, nodes_below, pages_below, trees_finding, unowned_from}

-- A tree is the one below a root page.
pub record IsTreeBelow (frames : Frames) (root : ℕ) (tree : Tree) : Type 0 where
  pub is_tree : IsTree frames tree
  pub root_is : tree.root ≡ root
  pub nodes : nodes_of frames tree ≡ nodes_below frames root
  pub pages : pages_of frames tree ≡ pages_below frames root

-- the pages of the trees below some root pages
abbrev pub walked_pages : Frames → List ℕ → List ℕ
walked_pages frames roots = flat_map (pages_below frames) roots

-- each of these pages is taken
abbrev pub AreTaken : Frames → List ℕ → Type 0
AreTaken frames pages = (p : ℕ) → 0 < copies p pages → is_some (page_at frames p) ≡ true

-- Trees were walked one after another, and no fault was met: each of their pages was marked, and no other.
pub record AreWalked (frames : Frames) (roots : List ℕ) (old new : List Bool) : Type 0 where
  pub none : trees_finding frames roots old ≡ None
  pub marks : new ≡ marks_after frames roots old
  pub own : (p : ℕ) → copies p (walked_pages frames roots) + times_marked old p ≡ times_marked new p
  pub taken : AreTaken frames (walked_pages frames roots)

-- These pages alone are marked, each of them is taken, and none is there twice.
pub record AreMarked (frames : Frames) (pages : List ℕ) (marks : List Bool) : Type 0 where
  pub own : (p : ℕ) → copies p pages + times_marked (no_marks frames) p ≡ times_marked marks p
  pub taken : AreTaken frames pages

-- what is found first where trees are walked: the first fault, then the least page that is in use and in none of them
abbrev pub forest_finding : Frames → List Bool → List ℕ → Option Finding
forest_finding frames marks roots = option_or (trees_finding frames roots marks) (unowned_from 0 frames (marks_after frames roots marks))
