-- Trees of pages in a space: their nodes, their pages and their shape.
use Rattle.std.specs.Prelude.{◌≡◌, ℕ, zero, suc, ◌+◌, ◌<◌, ◌≤◌, List, [], ◌∷◌, length, All, unwrap_or}
use Rattle.std.specs.List.{flat_map}
use Rattle.byteorder.specs.Endian.{little_number}
use Rattle.page_image.specs.Page.{Node, PageContents, IsPage, IsBelow, node_at, node_size}
use Rattle.page_space.specs.Frames.{Frames, IsTaken, page_at, empty_page}
use Rattle.btree_node.specs.declared.TheConstants.{MAX_NODE_BYTES}
use Rattle.btree_inplace.specs.declared.TheConstants.{MAX_KEY_BYTES}
use Rattle.btree_inplace.specs.declared.insert.TheConstants.{CHILD_BYTES}

-- the page of a number
abbrev pub page_in : Frames → ℕ → PageContents
page_in frames page = unwrap_or (page_at frames page) (empty_page page)

-- A node of an inner page has the number of a child as its data.
abbrev pub child_of : Node → ℕ
child_of n = little_number 4 n.data

-- The nodes of a tree are those of its leaves, from the left; depth is the number of inner pages above a leaf.
abbrev pub entries : ℕ → Frames → ℕ → List Node
entries zero frames page = (page_in frames page).nodes
entries (suc depth) frames page = flat_map (λ n. entries depth frames (child_of n)) (page_in frames page).nodes

-- the pages of a tree
abbrev pub pages : ℕ → Frames → ℕ → List ℕ
pages zero frames page = page ∷ []
pages (suc depth) frames page = page ∷ flat_map (λ n. pages depth frames (child_of n)) (page_in frames page).nodes

-- A node of a tree takes at most MAX_NODE_BYTES, and its key has at most MAX_KEY_BYTES.
pub record IsTreeNode (n : Node) : Type 0 where
  pub size : node_size n ≤ MAX_NODE_BYTES
  pub key : length n.key ≤ MAX_KEY_BYTES

-- A page of a tree is taken, bears its number and has a kind.
pub record IsTreePage (frames : Frames) (p k : ℕ) : Type 0 where
  pub taken : IsTaken frames p
  pub number : (page_in frames p).number ≡ p
  pub kind : (page_in frames p).kind ≡ k
  pub page : IsPage (page_in frames p)
  pub small : All IsTreeNode (page_in frames p).nodes

-- An inner page has a node, its first key is empty, and each node names a child by four bytes, the whole of its extent.
pub record IsInner (nodes : List Node) : Type 0 where
  pub some : 0 < length nodes
  pub first : (node_at nodes 0).key ≡ []
  pub children : All (λ n. length n.data ≡ CHILD_BYTES) nodes
  pub extents : All (λ n. n.extent ≡ CHILD_BYTES) nodes

-- A key of an inner page is a lower bound of its child's keys, and an upper bound, not reached, of those of the child before. No child is empty.
pub record IsBetween (nodes : List Node) (i : ℕ) (below : List Node) : Type 0 where
  pub some : 0 < length below
  pub lower : All (λ e. ¬ IsBelow e.key (node_at nodes i).key) below
  pub upper : i + 1 < length nodes → All (λ e. IsBelow e.key (node_at nodes (i + 1)).key) below

-- a tree below a page, all leaves of the same depth
abbrev pub IsSubtree : ℕ → Frames → ℕ → Type 0
IsSubtree zero frames page = IsTreePage frames page 1
IsSubtree (suc depth) frames page =
    IsTreePage frames page 2 × IsInner (page_in frames page).nodes
    × ((i : ℕ) → i < length (page_in frames page).nodes → IsSubtree depth frames (child_of (node_at (page_in frames page).nodes i)))
    × ((i : ℕ) → i < length (page_in frames page).nodes → IsBetween (page_in frames page).nodes i (entries depth frames (child_of (node_at (page_in frames page).nodes i))))
