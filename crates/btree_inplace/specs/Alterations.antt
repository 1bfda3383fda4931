-- A change below a page that may take pages and give pages back.
use Rattle.std.specs.Prelude.{◌≡◌, ℕ, zero, suc, ◌+◌, ◌<◌, ◌≤◌, ◌⊎◌, Bool, None, List, [], ◌∷◌, length, take, drop, find, slice_set, remove, All, if◌then◌else◌, ◌==◌, MatchOption}
use Rattle.page_image.specs.declared.spelling.TheConstants.{PAGE_BYTES}
use Rattle.page_image.specs.Page.{Node, PageContents, IsBelow, node_at, node_size, page_size}
use Rattle.page_space.specs.Frames.{Frames, IsTaken, page_at}
use Rattle.btree_node.specs.declared.TheConstants.{MAX_NODE_BYTES}
use Rattle.btree_node.specs.Cut.{IsChildPlace}
use Rattle.btree_inplace.specs.declared.insert.TheConstants.{INNER_NODE_BYTES}
use Rattle.btree_inplace.specs.Changes.{IsLocal, IsOldKey, without_key}
use Rattle.btree_inplace.specs.Order.{has_key}
use Rattle.btree_inplace.specs.Shape.{IsSubtree, child_of, entries, page_in, pages}
use Rattle.btree_inplace.specs.Trees.{nodes_of, pages_of}
use Rattle.btree_inplace.specs.declared.Tree.{Tree}
use Rattle.btree_inplace.specs.declared.TheConstants.{MAX_DEPTH}

-- how often a page is among the pages of a tree
unfoldable pub copies : ℕ → List ℕ → ℕ
copies p [] = 0
copies p (q ∷ list) = (if q == p then 1 else 0) + copies p list

-- The pages before are exchanged for the pages after, each of which is there once.
pub record Swaps (old new : Frames) (before after : List ℕ) : Type 0 where
  pub once : (p : ℕ) → copies p after ≤ 1
  pub taken : (p : ℕ) → 0 < copies p after → (0 < copies p before) ⊎ (page_at old p ≡ None)
  pub given_back : (p : ℕ) → 0 < copies p before → copies p after ≡ 0 → page_at new p ≡ None
  pub others : (p : ℕ) → copies p before ≡ 0 → copies p after ≡ 0 → page_at new p ≡ page_at old p

-- below a page the list has changed so
pub record Altered (change : List Node → List Node) (key : List ℕ) (depth : ℕ) (old new : Frames) (page : ℕ) : Type 0 where
  pub shape : IsSubtree depth new page
  pub nodes : entries depth new page ≡ change (entries depth old page)
  pub swaps : Swaps old new (pages depth old page) (pages depth new page)
  pub keys : All (IsOldKey key (entries depth old page)) (entries depth new page)
  pub some : 0 < length (entries depth old page) → 0 < length (entries depth new page)

-- a tree and its list have changed so
pub record AlteredTree (change : List Node → List Node) (old : Frames) (tree : Tree) (new : Frames) (tree' : Tree) : Type 0 where
  pub shape : IsSubtree tree'.depth new tree'.root
  pub nodes : nodes_of new tree' ≡ change (nodes_of old tree)
  pub swaps : Swaps old new (pages_of old tree) (pages_of new tree')
  pub deep : tree'.depth ≤ MAX_DEPTH

-- Below a page no node is left, and of its pages only that page.
pub record Emptied (key : List ℕ) (depth : ℕ) (old new : Frames) (page : ℕ) : Type 0 where
  pub none : without_key (entries depth old page) key ≡ []
  pub taken : IsTaken new page
  pub swaps : Swaps old new (pages depth old page) (page ∷ [])

-- the room that a change needs on a page: on an inner page that of the largest node
abbrev pub room_at : ℕ → ℕ → ℕ
room_at zero need = need
room_at (suc depth) need = INNER_NODE_BYTES

-- So much fits beside the node with a key, or as a node of its own.
abbrev pub Needs : List ℕ → ℕ → List Node → Type 0
Needs key need nodes = MatchOption (find (has_key key) nodes) (need ≤ MAX_NODE_BYTES) (λ n. node_size n + need ≤ MAX_NODE_BYTES)

-- The child is where the key belongs to, and the list is the same.
pub record Entered (key : List ℕ) (depth : ℕ) (old new : Frames) (page child : ℕ) : Type 0 where
  pub altered : Altered (λ nodes. nodes) key (suc depth) old new page
  pub place : (i : ℕ) × IsChildPlace (page_in new page).nodes key i × (child ≡ child_of (node_at (page_in new page).nodes i))

-- A leaf with room takes a change at the key, and the tree with it.
pub record Reaches (key : List ℕ) (need : ℕ) (old : Frames) (tree : Tree) (new : Frames) (tree' : Tree) (leaf : ℕ) : Type 0 where
  pub shape : IsSubtree zero new leaf
  pub room : page_size (page_in new leaf).nodes + need ≤ PAGE_BYTES
  pub found : find (has_key key) (entries zero new leaf) ≡ find (has_key key) (nodes_of old tree)
  pub lifts : (change : List Node → List Node) (last : Frames) → IsLocal change key → Altered change key zero new last leaf → AlteredTree change old tree last tree'

-- the key between two parts: one that stands between them, or the first of the second part
abbrev pub separator : List Node → List ℕ → ℕ → Bool → List ℕ
separator nodes key at by_key = if by_key then key else (node_at nodes at).key

-- The nodes are cut in two, a key apart.
pub record IsParted (nodes : List Node) (at : ℕ) (middle : List ℕ) : Type 0 where
  pub first : 0 < at
  pub last : at < length nodes
  pub low : (k : ℕ) → k < at → IsBelow (node_at nodes k).key middle
  pub high : (k : ℕ) → at ≤ k → k < length nodes → ¬ IsBelow (node_at nodes k).key middle

-- The part that a key belongs to has room.
pub record HasRoom (nodes : List Node) (key : List ℕ) (need at : ℕ) (middle : List ℕ) : Type 0 where
  pub left : IsBelow key middle → page_size (take at nodes) + need ≤ PAGE_BYTES
  pub right : ¬ IsBelow key middle → page_size (drop at nodes) + need ≤ PAGE_BYTES

-- the nodes of an inner page with an empty first key
abbrev pub cleared : List Node → List Node
cleared nodes = slice_set nodes 0 (record (node_at nodes 0) { key = [] })

-- an inner page with one child
pub record IsRootAbove (p : PageContents) (root below : ℕ) : Type 0 where
  pub number : p.number ≡ root
  pub kind : p.kind ≡ 2
  pub one : length p.nodes ≡ 1
  pub key : (node_at p.nodes 0).key ≡ []
  pub extent : (node_at p.nodes 0).extent ≡ 4
  pub width : length (node_at p.nodes 0).data ≡ 4
  pub child : child_of (node_at p.nodes 0) ≡ below

-- the nodes of an inner page without a child
abbrev pub unlinked : List Node → ℕ → List Node
unlinked nodes i = if i == 0 then cleared (remove nodes i) else remove nodes i
