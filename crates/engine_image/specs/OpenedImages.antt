-- An image whose catalog and trees are opened, and whose live part is read.
use Rattle.std.specs.Prelude.{◌≡◌, ℕ, true, false, Bool, List, [], ◌++◌, None, Option, Some, map, slice_get}
use Rattle.std.specs.List.{flat_map}
use Rattle.checkpoint.specs.declared.image.Image.{Image}
use Rattle.catalog_record.specs.CatalogTrees.{own_pages}
use Rattle.database_state.specs.Table.{schema_of}
use Rattle.image_contents.specs.FoundEntries.{IsShown}
use Rattle.image_contents.specs.LegalRules.{HasLegalRules}
use Rattle.image_contents.specs.declared.entries.variants.TableVariants.{TableVariants}
use Rattle.image_findings.specs.CatalogFindings.{catalog_told, table_of}
use Rattle.image_findings.specs.Findings.{catalog_marks, contents_in, held_in, told_in}
use Rattle.image_findings.specs.Images.{ImageContents}
use Rattle.image_findings.specs.TableContents.{TableContents, contents_with_id}
use Rattle.image_findings.specs.TreeFindings.{nodes_below, no_marks}
use Rattle.image_live.specs.LoadedParts.{IsLoaded}
use Rattle.image_opening.specs.OpenedCatalogs.{IsOpened, is_sound, opening_finding}
use Rattle.image_opening.specs.OpenedTrees.{AreOpened, AreTreesBelow, EachWith, HasContents, opened_pages}
use Rattle.live_part.specs.LiveBytes.{LivePart, live_fits}
use Rattle.live_part.specs.LiveReading.{whole_in}
use Rattle.table_trees.specs.Pages.{IsForest}
use Rattle.version_store.specs.HeldChanges.{HeldChange}
use Rattle.engine_image.specs.declared.contents.ReadLive.{ReadLive}
use Rattle.engine_image.specs.declared.forest.OpenedForest.{OpenedForest}
use Rattle.engine_image.specs.declared.opening.OpenedImage.{OpenedImage}
use Rattle.engine_image.specs.declared.parts.ImageParts.{ImageParts}

-- an image as plain data, without the slots of its pages
abbrev pub contents_of : Image → ImageContents
contents_of image = record { number = image.number; pages = image.pages.items; catalog_root = image.catalog_root; live = image.live.items }

-- the held changes that are not undone, none where the live part has not its form
abbrev pub held_of : ImageContents → List HeldChange
held_of image = held_in (whole_in image.live)

-- A live part was read: its undone changes stand apart. Where bytes are none, nothing stands in its place.
abbrev pub IsReadLive : Option LivePart → ReadLive → Type 0
IsReadLive None live = (live.is_formed ≡ false) × (live.part.versions ≡ [])
IsReadLive (Some whole) live = (live.is_formed ≡ true) × IsLoaded whole live.part × (live_fits whole ≡ true)

-- The catalog of an image and the trees of its tables are opened, those below the root pages that it names, and nothing is found of
-- them. Each page that is taken is in one of these trees, and there once.
pub record IsOpenedForest (image : ImageContents) (forest : OpenedForest) : Type 0 where
  pub catalog : IsOpened image.pages image.catalog_root forest.catalog.tree forest.catalog.catalog forest.catalog.roots.items
  pub none : opening_finding image.pages (no_marks image.pages) image.catalog_root ≡ None
  pub marks : List Bool
  pub trees : AreOpened image.pages (catalog_marks image) marks (told_in image) forest.trees.items
  pub below : EachWith (AreTreesBelow image.pages) forest.catalog.roots.items forest.trees.items
  pub pages : IsForest image.pages (own_pages image.pages forest.catalog.tree ++ flat_map (opened_pages image.pages) forest.trees.items)

-- So is an image, whose pages stand in a space.
pub record IsOpenedImage (image : ImageContents) (opened : OpenedImage) : Type 0 where
  pub number : opened.number ≡ image.number
  pub pages : opened.space ≡ image.pages
  pub forest : IsOpenedForest image opened.forest
  pub live : IsReadLive (whole_in image.live) opened.live

-- The parts of an opened image, lent.
pub record AreParts (image : ImageContents) (parts : ImageParts) : Type 0 where
  pub number : parts.number ≡ image.number
  pub live : IsReadLive (whole_in image.live) parts.live.now
  pub telling : catalog_told (nodes_below image.pages image.catalog_root) ≡ Some (told_in image)
  pub sound : is_sound (told_in image) ≡ true
  pub tables : parts.catalog.now.tables ≡ map table_of (told_in image).tables
  pub contents : EachWith (HasContents parts.space.now) parts.trees.now (contents_in image)

-- What an image has of the table at a place: it is found by its number, and the keys of its indexes can be derived.
pub record ShownAt (image : ImageContents) (place : ℕ) (v : TableVariants) : Type 0 where
  pub t : TableContents
  pub at : slice_get (contents_in image) place ≡ Some t
  pub shown : IsShown v t
  pub rules : HasLegalRules (schema_of t.table)
  pub found : contents_with_id (contents_in image) t.table.id ≡ Some t
  pub versions : v.versions.now ≡ held_of image
