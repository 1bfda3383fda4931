-- A tree in a space: its nodes in key order, and its pages.
use Rattle.std.specs.Prelude.{◌≡◌, ◌≢◌, ◌≤◌, ℕ, None, ◌⊎◌, List, AllPairs, Contains}
use Rattle.page_image.specs.Page.{Node}
use Rattle.page_space.specs.Frames.{Frames, page_at}
use Rattle.btree_inplace.specs.Shape.{IsSubtree, entries, pages}
use Rattle.btree_inplace.specs.declared.Tree.{Tree}
use Rattle.btree_inplace.specs.declared.TheConstants.{MAX_DEPTH}

-- the nodes of a tree
abbrev pub nodes_of : Frames → Tree → List Node
nodes_of frames tree = entries tree.depth frames tree.root

-- the pages of a tree, which no other tree has
abbrev pub pages_of : Frames → Tree → List ℕ
pages_of frames tree = pages tree.depth frames tree.root

-- A tree has its shape, none of its pages twice, and at most MAX_DEPTH inner pages one below the other.
pub record IsTree (frames : Frames) (tree : Tree) : Type 0 where
  pub shape : IsSubtree tree.depth frames tree.root
  pub once : AllPairs (λ p q. p ≢ q) (pages_of frames tree)
  pub deep : tree.depth ≤ MAX_DEPTH

-- no page is in both lists
abbrev pub AreApart : List ℕ → List ℕ → Type 0
AreApart pages others = (p : ℕ) → Contains pages p → ¬ Contains others p

-- These pages are the same in both spaces.
abbrev pub Stay : Frames → Frames → List ℕ → Type 0
Stay old new pages = (p : ℕ) → Contains pages p → page_at new p ≡ page_at old p

-- A tree that had the pages before and has the pages after gives back those that it lost, takes only free ones, and leaves all others.
pub record Exchanges (old new : Frames) (before after : List ℕ) : Type 0 where
  pub taken : (p : ℕ) → Contains after p → Contains before p ⊎ (page_at old p ≡ None)
  pub given_back : (p : ℕ) → Contains before p → ¬ Contains after p → page_at new p ≡ None
  pub others : (p : ℕ) → ¬ Contains before p → ¬ Contains after p → page_at new p ≡ page_at old p
