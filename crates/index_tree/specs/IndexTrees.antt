-- The entries that an index's tree holds.
use Rattle.std.specs.Prelude.{◌≡◌, ℕ, true, List, map, All}
use Rattle.page_space.specs.Frames.{Frames}
use Rattle.btree_inplace.specs.Trees.{IsTree, nodes_of, pages_of}
use Rattle.cursor_nav.specs.Places.{Pair, are_sorted}
use Rattle.index_tree.specs.Entries.{AreApart, IsShort, entry_of_node, node_of_entry}
use Rattle.index_tree.specs.declared.index.IndexTree.{IndexTree}

-- the entries of an index, in rising order
abbrev pub entries_of : Frames → IndexTree → List Pair
entries_of frames index = map entry_of_node (nodes_of frames index.tree)

-- the pages of its tree, which nothing else in its space has
abbrev pub own_pages : Frames → IndexTree → List ℕ
own_pages frames index = pages_of frames index.tree

-- the root page of its tree
abbrev pub root_of : IndexTree → ℕ
root_of index = index.tree.root

-- The tree has a node for each entry and no other. No entry's key begins the key of another: so the nodes have the order of the entries.
pub record IsIndexTree (frames : Frames) (index : IndexTree) : Type 0 where
  pub tree : IsTree frames index.tree
  pub nodes : nodes_of frames index.tree ≡ map node_of_entry (entries_of frames index)
  pub in_order : are_sorted (entries_of frames index) ≡ true
  pub short : All IsShort (entries_of frames index)
  pub apart : AreApart (entries_of frames index)
