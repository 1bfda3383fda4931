-- What the opened trees of a table have, against what an image has of it.
use Rattle.std.specs.Prelude.{◌≡◌, ℕ, Bool, List, [], ◌∷◌, ◌++◌, None, map, All}
use Rattle.std.specs.List.{flat_map}
use Rattle.btree_inplace.specs.Trees.{IsTree, nodes_of, pages_of}
use Rattle.index_derive.specs.declared.rules.IndexRule.{IndexRule}
use Rattle.page_image.specs.Page.{Node}
use Rattle.page_space.specs.Frames.{Frames}
use Rattle.catalog_record.specs.CatalogTrees.{own_pages}
use Rattle.catalog_record.specs.declared.tree.CatalogTree.{CatalogTree}
use Rattle.table_trees.specs.Pages.{IsForest}
use Rattle.table_trees.specs.StoredTrees.{StoredRoots}
use Rattle.image_findings.specs.CatalogFindings.{CatalogTold}
use Rattle.image_findings.specs.Findings.{roots_told}
use Rattle.image_findings.specs.TableContents.{TableContents, contents_below}
use Rattle.image_findings.specs.TreeFindings.{marks_after, trees_finding, unowned_from}
use Rattle.image_opening.specs.WalkedTrees.{AreMarked, IsTreeBelow}
use Rattle.image_opening.specs.declared.opened.OpenedIndex.{OpenedIndex}
use Rattle.image_opening.specs.declared.opened.OpenedTable.{OpenedTable}

-- the number of an index with its nodes, as they were opened and as an image has them
abbrev pub index_opened : Frames → OpenedIndex → ℕ × List Node
index_opened frames x = (x.index.0, nodes_of frames x.tree)

abbrev pub index_shown : IndexRule × List Node → ℕ × List Node
index_shown index = (index.0.id.0, index.1)

-- The trees of a table are trees, and their nodes are those that an image has of it.
pub record HasContents (frames : Frames) (opened : OpenedTable) (t : TableContents) : Type 0 where
  pub number : opened.table.0 ≡ t.table.id
  pub nodes_tree : IsTree frames opened.nodes
  pub nodes_are : nodes_of frames opened.nodes ≡ t.nodes
  pub values_tree : IsTree frames opened.long_values
  pub values_are : nodes_of frames opened.long_values ≡ t.value_nodes
  pub index_trees : All (λ (x : OpenedIndex). IsTree frames x.tree) opened.indexes.items
  pub indexes_are : map (index_opened frames) opened.indexes.items ≡ map index_shown t.indexes

-- ---- trees by their root pages

-- Two lists have one length, and what stands in one place of them is related.
abbrev pub EachWith : {X Y : Type 0} → (X → Y → Type 0) → List X → List Y → Type 0
EachWith R [] [] = Unit {0}
EachWith R [] (y ∷ ys) = ⊥
EachWith R (x ∷ xs) [] = ⊥
EachWith R (x ∷ xs) (y ∷ ys) = R x y × EachWith R xs ys

-- the root pages of a table's trees in the order in which they are walked: its records, its indexes, and its long values
abbrev pub roots_walked : StoredRoots → List ℕ
roots_walked roots = roots.records ∷ (map (λ (x : ℕ × ℕ). x.1) roots.indexes ++ roots.long_values ∷ [])

-- an index has the number, and the tree below the root page
abbrev pub IsIndexBelow : Frames → ℕ × ℕ → OpenedIndex → Type 0
IsIndexBelow frames root opened = (opened.index.0 ≡ root.0) × IsTreeBelow frames root.1 opened.tree

-- The trees of a table are those below its root pages.
pub record AreTreesBelow (frames : Frames) (roots : StoredRoots) (opened : OpenedTable) : Type 0 where
  pub number : opened.table.0 ≡ roots.number
  pub nodes : IsTreeBelow frames roots.records opened.nodes
  pub long_values : IsTreeBelow frames roots.long_values opened.long_values
  pub indexes : EachWith (IsIndexBelow frames) roots.indexes opened.indexes.items

-- ---- the trees of all tables

-- the pages of a table's trees, in the order of `table_pages`
abbrev pub index_pages : Frames → OpenedIndex → List ℕ
index_pages frames opened = pages_of frames opened.tree

abbrev pub opened_pages : Frames → OpenedTable → List ℕ
opened_pages frames opened = (pages_of frames opened.nodes ++ pages_of frames opened.long_values) ++ flat_map (index_pages frames) opened.indexes.items

-- The trees of the tables of a catalog are opened, and nothing was found: they have what the image has of the tables, and with the trees
-- whose pages were marked before they are all that there is, each page once.
pub record AreOpened (frames : Frames) (old new : List Bool) (told : CatalogTold) (opened : List OpenedTable) : Type 0 where
  pub contents : EachWith (HasContents frames) opened (map (contents_below frames) told.tables)
  pub none : trees_finding frames (roots_told told) old ≡ None
  pub marks : new ≡ marks_after frames (roots_told told) old
  pub owned : unowned_from 0 frames new ≡ None
  pub forest : (pages : List ℕ) → AreMarked frames pages old → IsForest frames (pages ++ flat_map (opened_pages frames) opened)

-- ---- a change of the catalog alone

-- The catalog's tree changed, and the trees of the tables did not: they have the same pages and show the same, and with the catalog's they
-- are all that there is, each page once.
pub record StayOpened (old new : Frames) (catalog : CatalogTree) (opened : List OpenedTable) (shown : List TableContents) : Type 0 where
  pub contents : EachWith (HasContents new) opened shown
  pub pages : flat_map (opened_pages new) opened ≡ flat_map (opened_pages old) opened
  pub forest : IsForest new (own_pages new catalog ++ flat_map (opened_pages new) opened)
