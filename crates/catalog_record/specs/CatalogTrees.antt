-- The nodes that a catalog's tree holds.
use Rattle.std.specs.Prelude.{◌≡◌, ℕ, List}
use Rattle.page_image.specs.Page.{Node}
use Rattle.page_space.specs.Frames.{Frames}
use Rattle.btree_inplace.specs.Trees.{Exchanges, IsTree, nodes_of, pages_of}
use Rattle.catalog_record.specs.declared.tree.CatalogTree.{CatalogTree}

-- the nodes, by rising key
abbrev pub nodes_in : Frames → CatalogTree → List Node
nodes_in frames catalog = nodes_of frames catalog.tree

-- the pages of the tree, which nothing else in its space has
abbrev pub own_pages : Frames → CatalogTree → List ℕ
own_pages frames catalog = pages_of frames catalog.tree

abbrev pub IsCatalogTree : Frames → CatalogTree → Type 0
IsCatalogTree frames catalog = IsTree frames catalog.tree

-- the root page of the tree
abbrev pub root_of : CatalogTree → ℕ
root_of catalog = catalog.tree.root

-- A catalog's tree has become another with these nodes and the same root page, and the pages of other trees are as they were.
pub record CatalogBecomes (old : Frames) (was : CatalogTree) (new : Frames) (is : CatalogTree) (list : List Node) : Type 0 where
  pub tree : IsCatalogTree new is
  pub nodes : nodes_in new is ≡ list
  pub pages : Exchanges old new (own_pages old was) (own_pages new is)
  pub root : root_of is ≡ root_of was
