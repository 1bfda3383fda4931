-- A look-up's path with the nearest subtree beside it, which has the node that the path's leaf may lack.
use Rattle.std.specs.Prelude.{◌≡◌, ℕ, ◌+◌, ◌-◌, ◌<◌, ◌≤◌, Bool, true, Option, Some, None, List, length, find, reverse, ⊤}
use Rattle.std.specs.Option.{MatchOption, option_or}
use Rattle.page_image.specs.Page.{Node, node_at}
use Rattle.page_space.specs.Frames.{Frames}
use Rattle.btree_inplace.specs.Order.{has_key, is_above, is_under}
use Rattle.btree_inplace.specs.Shape.{IsSubtree, entries}

-- a subtree, by its page and its depth, that has a node
abbrev pub IsNeighbor : Frames → Option (ℕ × ℕ) → Type 0
IsNeighbor frames next = MatchOption next ⊤ (λ at. IsSubtree at.1 frames at.0 × (0 < length (entries at.1 frames at.0)))

-- the first node of a neighbor
abbrev pub first_of : Frames → Option (ℕ × ℕ) → Option Node
first_of frames None = None
first_of frames (Some at) = find (λ _. true) (entries at.1 frames at.0)

-- the first node that passes, below a page or else the first of its neighbor on the right
abbrev pub found_right : Frames → ℕ → ℕ → Option (ℕ × ℕ) → (Node → Bool) → Option Node
found_right frames depth page next test = option_or (find test (entries depth frames page)) (first_of frames next)

-- the last node of a neighbor
abbrev pub last_of : Frames → Option (ℕ × ℕ) → Option Node
last_of frames None = None
last_of frames (Some at) = find (λ _. true) (reverse (entries at.1 frames at.0))

-- the last node that passes, below a page or else the last of its neighbor on the left
abbrev pub found_left : Frames → ℕ → ℕ → Option (ℕ × ℕ) → (Node → Bool) → Option Node
found_left frames depth page next test = option_or (find test (reverse (entries depth frames page))) (last_of frames next)

-- the place of the first node that passes, or one behind all nodes where none does
pub record IsFirstPlace (test : Node → Bool) (nodes : List Node) (i : ℕ) : Type 0 where
  pub found : i < length nodes → find test nodes ≡ Some (node_at nodes i)
  pub none : length nodes ≤ i → find test nodes ≡ None

-- the place of the last node that passes, where one does
abbrev pub IsLastPlace : (Node → Bool) → List Node → Option ℕ → Type 0
IsLastPlace test nodes place = MatchOption place (find test (reverse nodes) ≡ None) (λ i. (i < length nodes) × (find test (reverse nodes) ≡ Some (node_at nodes i)))

-- A part of the nodes has the one with the key at place i, and its neighbors in the part are its neighbors.
pub record HasNodeAt (nodes : List Node) (key : List ℕ) (part : List Node) (i : ℕ) : Type 0 where
  pub within : i < length part
  pub found : find (has_key key) nodes ≡ Some (node_at part i)
  pub after : i + 1 < length part → find (is_above key) nodes ≡ Some (node_at part (i + 1))
  pub before : 0 < i → find (is_under key) (reverse nodes) ≡ Some (node_at part (i - 1))
