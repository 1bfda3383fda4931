-- The catalog that stands beside the tables. While it is empty it may have no page.
use Rattle.std.specs.Prelude.{◌≡◌, ℕ, true, Option, Some, None, List, []}
use Rattle.index_derive.specs.declared.schema_calls.SchemaStep.{SchemaStep}
use Rattle.jet_catalog.specs.Catalog.{CatalogState, catalog_after}
use Rattle.catalog_grammar.specs.CatalogSteps.{HasNodesThrough, Roots, has_nodes, nodes_of_catalog}
use Rattle.page_image.specs.Page.{Node}
use Rattle.page_space.specs.Frames.{Frames}
use Rattle.catalog_grammar.specs.Catalogs.{catalog_nodes}
use Rattle.catalog_record.specs.CatalogTrees.{IsCatalogTree, nodes_in, own_pages, root_of}
use Rattle.catalog_record.specs.declared.tree.CatalogTree.{CatalogTree}
use Rattle.table_trees.specs.Pages.{Rearranges}
use Rattle.table_trees.specs.declared.catalog.KeptCatalog.{KeptCatalog}

abbrev pub nodes_of_tree : Frames → Option CatalogTree → List Node
nodes_of_tree frames None = catalog_nodes 0 []
nodes_of_tree frames (Some tree) = nodes_in frames tree

abbrev pub pages_of_tree : Frames → Option CatalogTree → List ℕ
pages_of_tree frames None = []
pages_of_tree frames (Some tree) = own_pages frames tree

abbrev pub IsTreeOrNone : Frames → Option CatalogTree → Type 0
IsTreeOrNone frames None = Unit {0}
IsTreeOrNone frames (Some tree) = IsCatalogTree frames tree

abbrev pub kept_nodes : Frames → KeptCatalog → List Node
kept_nodes frames kept = nodes_of_tree frames kept.tree

abbrev pub kept_pages : Frames → KeptCatalog → List ℕ
kept_pages frames kept = pages_of_tree frames kept.tree

-- the root page of its tree, if it has one
abbrev pub root_of_tree : Option CatalogTree → Option ℕ
root_of_tree None = None
root_of_tree (Some tree) = Some (root_of tree)

abbrev pub kept_root : KeptCatalog → Option ℕ
kept_root kept = root_of_tree kept.tree

abbrev pub IsKeptCatalog : Frames → KeptCatalog → Type 0
IsKeptCatalog frames kept = IsTreeOrNone frames kept.tree

-- The catalog has become another with these nodes.
pub record KeptBecomes (old : Frames) (was : KeptCatalog) (new : Frames) (is : KeptCatalog) (list : List Node) : Type 0 where
  pub tree : IsKeptCatalog new is
  pub nodes : kept_nodes new is ≡ list
  pub pages : Rearranges old new (kept_pages old was) (kept_pages new is)

-- It has the nodes of a catalog whose trees have these roots, and each of them can be written.
pub record HoldsKept (frames : Frames) (kept : KeptCatalog) (roots : Roots) (catalog : CatalogState) : Type 0 where
  pub tree : IsKeptCatalog frames kept
  pub nodes : kept_nodes frames kept ≡ nodes_of_catalog roots catalog
  pub writable : has_nodes roots catalog ≡ true

-- It has the nodes of a catalog after a step, which may be taken back: those before it can be written, too.
pub record HoldsKeptStep (frames : Frames) (kept : KeptCatalog) (roots : Roots) (catalog : CatalogState) (made : SchemaStep) : Type 0 where
  pub tree : IsKeptCatalog frames kept
  pub nodes : kept_nodes frames kept ≡ nodes_of_catalog roots (catalog_after catalog made)
  pub through : HasNodesThrough roots catalog made

-- It has become another, which has the nodes of this catalog.
pub record KeptFollows (old : Frames) (was : KeptCatalog) (new : Frames) (is : KeptCatalog) (roots : Roots) (after : CatalogState) : Type 0 where
  pub becomes : KeptBecomes old was new is (nodes_of_catalog roots after)
  pub writable : has_nodes roots after ≡ true
