-- What is found first where the catalog of an image is opened.
use Rattle.std.specs.Prelude.{◌≡◌, ℕ, Bool, true, List, [], ◌∷◌, map, Option, Some, None, if◌then◌else◌}
use Rattle.std.specs.Option.{option_or}
use Rattle.page_image.specs.Page.{Node}
use Rattle.page_space.specs.Frames.{Frames}
use Rattle.catalog_grammar.specs.Catalogs.{CatalogTable}
use Rattle.catalog_record.specs.declared.tree.CatalogTree.{CatalogTree}
use Rattle.index_derive.specs.declared.rules.IndexRule.{IndexRule}
use Rattle.jet_base.specs.declared.ids.IndexId.{IndexId}
use Rattle.jet_catalog.specs.Catalog.{CatalogState}
use Rattle.table_trees.specs.StoredTrees.{StoredRoots}
use Rattle.image_findings.specs.CatalogFindings.{CatalogTold, catalog_told, is_sound_catalog, rooted_indexes, table_of}
use Rattle.image_findings.specs.Images.{Finding}
use Rattle.image_findings.specs.Images.Finding.{Catalog, Pages, Tree}
use Rattle.image_findings.specs.TreeFindings.{nodes_below, trees_finding}
use Rattle.image_opening.specs.WalkedTrees.{IsTreeBelow}
use Rattle.image_opening.specs.declared.fault.OpenFault.{OpenFault}
use Rattle.image_opening.specs.declared.fault.OpenFault.TheVariants as fault

-- whether a catalog that nodes tell is sound
abbrev pub is_sound : CatalogTold → Bool
is_sound told = is_sound_catalog told.greatest (map table_of told.tables)

-- what is found of a catalog that nodes tell, or do not tell
abbrev pub told_finding : Option CatalogTold → Option Finding
told_finding None = Some Catalog
told_finding (Some told) = if is_sound told then None else Some Catalog

-- what is found first of the catalog below a root page: of its tree, then of what its nodes tell
abbrev pub opening_finding : Frames → List Bool → ℕ → Option Finding
opening_finding frames marks root = option_or (trees_finding frames (root ∷ []) marks) (told_finding (catalog_told (nodes_below frames root)))

-- A fault is the first finding. Want of memory tells nothing.
abbrev pub IsFirstFinding : Option Finding → OpenFault → Type 0
IsFirstFinding first (fault.Pages page) = first ≡ Some (Pages page)
IsFirstFinding first (fault.Tree root page) = first ≡ Some (Tree root page)
IsFirstFinding first fault.Catalog = first ≡ Some Catalog
IsFirstFinding first fault.OutOfMemory = Unit {0}

-- the number of an index with the root of its tree, as nodes tell it and as it is kept
abbrev pub root_told : ℕ × IndexRule → ℕ × ℕ
root_told index = (index.1.id.0, index.0)

abbrev pub root_kept : IndexId × ℕ → ℕ × ℕ
root_kept entry = (entry.0.0, entry.1)

-- the root pages of a table's trees
abbrev pub stored_roots : CatalogTable → StoredRoots
stored_roots x = record { number = x.table.id.0; records = x.table.records; long_values = x.table.long_values; indexes = map root_told (rooted_indexes x) }

-- ---- what is opened

-- the catalog of the database, and the root pages of each table's trees
abbrev pub catalog_of_told : CatalogTold → CatalogState
catalog_of_told told = record { greatest_table = told.greatest; tables = map table_of told.tables }

abbrev pub roots_of_told : CatalogTold → List StoredRoots
roots_of_told told = map stored_roots told.tables

-- Nodes tell a sound catalog, with the roots of its tables' trees.
pub record IsRead (nodes : List Node) (catalog : CatalogState) (roots : List StoredRoots) : Type 0 where
  pub told : CatalogTold
  pub telling : catalog_told nodes ≡ Some told
  pub sound : is_sound told ≡ true
  pub catalog_is : catalog ≡ catalog_of_told told
  pub roots_are : roots ≡ roots_of_told told

-- The tree below a root page, and the catalog that its nodes tell.
pub record IsOpened (frames : Frames) (root : ℕ) (tree : CatalogTree) (catalog : CatalogState) (roots : List StoredRoots) : Type 0 where
  pub tree_below : IsTreeBelow frames root tree.tree
  pub is_read : IsRead (nodes_below frames root) catalog roots
