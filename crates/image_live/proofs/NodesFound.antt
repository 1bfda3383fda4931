-- The node under the bookmark of a change, as it is found in the tree of its table.
use Rattle.std.proofs.Common.{◌≡◌, ℕ, List, Option, Some, None, refl, sym, ap, subst, ◌∙◌}
use Rattle.btree_inplace.specs.Order.{get_in}
use Rattle.btree_inplace.specs.Trees.{IsTree, nodes_of}
use Rattle.database_state.specs.Table.{Table, table_with_id}
use Rattle.image_findings.specs.LiveFindings.{node_under}
use Rattle.image_findings.specs.TableContents.{TableContents, contents_with_id}
use Rattle.image_opening.specs.declared.opened.OpenedTable.{OpenedTable}
use Rattle.page_space.specs.Frames.{Frames}
use Rattle.version_store.specs.HeldChanges.{HeldChange}
use Rattle.image_live.proofs.Found.{AreFound, trees_with_id}
use Rattle.image_live.proofs.RowsFound.{found_in}
use Rattle.image_live.specs.TablesRead.{AreTablesOf}
use Rattle.image_live.specs.declared.tables.ImageTables.{ImageTables}

abbrev node_in : Option TableContents → List ℕ → Option (List ℕ)
node_in None bookmark = None
node_in (Some t) bookmark = get_in t.nodes bookmark

under_is : (tables : List TableContents) (h : HeldChange) → node_in (contents_with_id tables h.table) h.bookmark ≡ node_under tables h
under_is tables h = by (contents_with_id tables h.table)
  where
    by : (t : Option TableContents) → node_in t h.bookmark ≡ (elim t [ Some t ↦ get_in t.nodes h.bookmark | None ↦ None ])
    by None = refl
    by (Some t) = refl

-- ---- no table

none_in : (frames : Frames) (bookmark : List ℕ) (d : Option Table) (t : Option TableContents) → AreFound frames d None t → None ≡ node_in t bookmark
none_in frames bookmark None None found = refl
none_in frames bookmark None (Some t) found = absurd found
none_in frames bookmark (Some d) t found = absurd found

pub no_node : (image : ImageTables) (tables : List TableContents) (h : HeldChange) → None ≡ trees_with_id image.trees.now h.table → AreTablesOf image tables → None ≡ node_under tables h
no_node image tables h none are =
    none_in image.space.now h.bookmark (table_with_id image.catalog.now.tables h.table) (contents_with_id tables h.table)
    (subst (λ (x : Option OpenedTable). AreFound image.space.now (table_with_id image.catalog.now.tables h.table) x (contents_with_id tables h.table)) (sym none) (found_in image tables h.table are))
    ∙ under_is tables h

-- ---- the tree of its table

found_with : (image : ImageTables) (tables : List TableContents) (id : ℕ) (trees : OpenedTable) → Some trees ≡ trees_with_id image.trees.now id → AreTablesOf image tables → AreFound image.space.now (table_with_id image.catalog.now.tables id) (Some trees) (contents_with_id tables id)
found_with image tables id trees is are = subst (λ (x : Option OpenedTable). AreFound image.space.now (table_with_id image.catalog.now.tables id) x (contents_with_id tables id)) (sym is) (found_in image tables id are)

tree_in : (frames : Frames) (trees : OpenedTable) (d : Option Table) (t : Option TableContents) → AreFound frames d (Some trees) t → IsTree frames trees.nodes
tree_in frames trees None t found = absurd found
tree_in frames trees (Some d) None found = absurd found
tree_in frames trees (Some d) (Some t) found = found.contents.nodes_tree

pub tree_of : (image : ImageTables) (tables : List TableContents) (id : ℕ) (trees : OpenedTable) → Some trees ≡ trees_with_id image.trees.now id → AreTablesOf image tables → IsTree image.space.now trees.nodes
tree_of image tables id trees is are = tree_in image.space.now trees (table_with_id image.catalog.now.tables id) (contents_with_id tables id) (found_with image tables id trees is are)

data_in : (frames : Frames) (bookmark : List ℕ) (trees : OpenedTable) (d : Option Table) (t : Option TableContents) → AreFound frames d (Some trees) t → get_in (nodes_of frames trees.nodes) bookmark ≡ node_in t bookmark
data_in frames bookmark trees None t found = absurd found
data_in frames bookmark trees (Some d) None found = absurd found
data_in frames bookmark trees (Some d) (Some t) found = ap (λ nodes. get_in nodes bookmark) found.contents.nodes_are

pub node_is : (image : ImageTables) (tables : List TableContents) (h : HeldChange) (trees : OpenedTable) (row : Option (List ℕ)) → Some trees ≡ trees_with_id image.trees.now h.table → row ≡ get_in (nodes_of image.space.now trees.nodes) h.bookmark → AreTablesOf image tables → row ≡ node_under tables h
node_is image tables h trees row is told are =
    told ∙ data_in image.space.now h.bookmark trees (table_with_id image.catalog.now.tables h.table) (contents_with_id tables h.table) (found_with image tables h.table trees is are) ∙ under_is tables h
