-- The store of an engine in its space, and what an image of it shows.
use Rattle.std.specs.Prelude.{◌≡◌, ◌≤◌, ℕ, Some, true, Bool, List, [], ◌∷◌, map}
use Rattle.cursor_nav.specs.Places.{are_sorted}
use Rattle.database_state.specs.State.{DatabaseState}
use Rattle.catalog_grammar.specs.CatalogSteps.{rooted_tables}
use Rattle.jet_catalog.specs.Catalog.{CatalogState, catalog_of}
use Rattle.long_value.specs.Values.{AreLong}
use Rattle.page_space.specs.Frames.{Frames}
use Rattle.stored_variants.specs.VersionsKept.{IsStore}
use Rattle.table_trees.specs.StoredNodes.{bookmark_entries}
use Rattle.table_trees.specs.StoredTables.{index_entries, table_long_values, table_nodes}
use Rattle.table_trees.specs.StoredTrees.{StoredTrees, roots_by_number}
use Rattle.table_trees.specs.TreesInSpace.{StandsIn}
use Rattle.version_store.specs.HeldChanges.{HeldChange}
use Rattle.laws_images.specs.SoundStates.{HasSoundCatalog}
use Rattle.image_findings.specs.CatalogFindings.{CatalogTold}
use Rattle.image_findings.specs.Images.{ImageContents}
use Rattle.image_findings.specs.TableContents.{TableContents, contents_below}
use Rattle.image_findings.specs.TreeFindings.{marks_after, no_marks}

-- The pages, the root page of the catalog's tree, the number of log entries and that of the newest put, the catalog, the trees, the
-- held changes, and a database state that they hold.
pub record OwnStore : Type 0 where
  pub frames : Frames
  pub root : ℕ
  pub number : ℕ
  pub newest : ℕ
  pub catalog : CatalogState
  pub trees : StoredTrees
  pub held : List HeldChange
  pub state : DatabaseState

-- The trees stand in the space and have exactly their nodes; catalog, trees and held changes are kept; bookmarks rise, entries rise, and
-- long values are whole; and the catalog is that of a state within the limits that an image is held to.
pub record IsOwnStore (store : OwnStore) : Type 0 where
  pub trees : StandsIn store.frames (Some store.root) store.trees
  pub kept : IsStore store.newest store.catalog store.trees store.held
  pub newest : store.newest ≤ store.number
  pub nodes : (table : ℕ) → are_sorted (bookmark_entries (table_nodes store.trees.tables table)) ≡ true
  pub entries : (table index : ℕ) → are_sorted (index_entries store.trees.tables table index) ≡ true
  pub long_values : (table : ℕ) → AreLong (table_long_values store.trees.tables table)
  pub catalog : catalog_of store.state ≡ store.catalog
  pub sound : HasSoundCatalog store.state

-- ---- what an image shows

-- the catalog, with the roots of its tables' trees
abbrev pub told_of : OwnStore → CatalogTold
told_of store = record { greatest = store.catalog.greatest_table; tables = rooted_tables (roots_by_number store.trees.catalog.roots) store.catalog.tables }

-- the marks once the catalog's tree is walked
abbrev pub own_marks : OwnStore → List Bool
own_marks store = marks_after store.frames (store.root ∷ []) (no_marks store.frames)

-- what the trees below the roots have of each table
abbrev pub contents_of : OwnStore → List TableContents
contents_of store = map (contents_below store.frames) (told_of store).tables

-- the image of its pages, with a live part
abbrev pub image_of : OwnStore → List ℕ → ImageContents
image_of store live = record { number = store.number; pages = store.frames; catalog_root = store.root; live = live }
