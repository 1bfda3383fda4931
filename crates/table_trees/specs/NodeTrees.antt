-- The nodes that a table's tree holds.
use Rattle.std.specs.Prelude.{◌≡◌, ℕ, true, List, All}
use Rattle.page_image.specs.Page.{Node}
use Rattle.page_space.specs.Frames.{Frames}
use Rattle.btree_inplace.specs.Trees.{IsTree, nodes_of, pages_of}
use Rattle.cursor_nav.specs.Places.{are_sorted}
use Rattle.table_trees.specs.Pages.{Rearranges}
use Rattle.table_trees.specs.StoredNodes.{IsShortNode, bookmark_entries}
use Rattle.table_trees.specs.declared.nodes.NodeTree.{NodeTree}

abbrev pub nodes_in : Frames → NodeTree → List Node
nodes_in frames nodes = nodes_of frames nodes.tree

abbrev pub node_pages : Frames → NodeTree → List ℕ
node_pages frames nodes = pages_of frames nodes.tree

-- the root page of the tree
abbrev pub node_root : NodeTree → ℕ
node_root nodes = nodes.tree.root

-- The nodes rise by their bookmarks, and are short.
pub record IsNodeTree (frames : Frames) (nodes : NodeTree) : Type 0 where
  pub tree : IsTree frames nodes.tree
  pub in_order : are_sorted (bookmark_entries (nodes_in frames nodes)) ≡ true
  pub short : All IsShortNode (nodes_in frames nodes)

-- A tree of nodes has become another with these nodes and the same root page.
pub record NodesBecome (old : Frames) (was : NodeTree) (new : Frames) (is : NodeTree) (list : List Node) : Type 0 where
  pub tree : IsNodeTree new is
  pub nodes : nodes_in new is ≡ list
  pub pages : Rearranges old new (node_pages old was) (node_pages new is)
  pub root : node_root is ≡ node_root was
