-- The engine that is made of a consistent image, part by part.
use Rattle.std.specs.Prelude.{◌≡◌, ℕ, [], map, Result, Ok, Err, IfSome}
use Rattle.std.specs.List.{AllByRecursion}
use Rattle.column_set.specs.NumberReading.{IsBytes}
use Rattle.image_findings.specs.Findings.{IsConsistent, contents_in, engine_in, finding, live_of, told_in}
use Rattle.image_findings.specs.ImageBytes.{IsOfBytes, IsPageOfBytes}
use Rattle.image_findings.specs.Images.{ImageContents}
use Rattle.image_findings.specs.TableContents.{TableContents}
use Rattle.image_findings.specs.ValueFindings.{broken_values}
use Rattle.image_opening.specs.OpenedCatalogs.{catalog_of_told}
use Rattle.own_images.specs.StoredContents.{HasStoredTrees, stored_of}
use Rattle.laws_engine.specs.EngineState.{EngineState}
use Rattle.live_part.specs.declared.reading.LoadedPart.{LoadedPart}
use Rattle.page_image.specs.Page.{Node, PageContents}
use Rattle.page_space.specs.Frames.{Frames}
use Rattle.table_trees.specs.ShownCatalogs.{ShowsCatalog}
use Rattle.engine_image.specs.FoundFaults.{Refuses}
use Rattle.engine_image.specs.OpenedImages.{IsOpenedForest, IsOpenedImage}
use Rattle.engine_image.specs.declared.fault.ImageFault.{ImageFault}
use Rattle.engine_image.specs.declared.forest.OpenedForest.{OpenedForest}
use Rattle.engine_image.specs.declared.making.MadeForest.{MadeForest}
use Rattle.engine_image.specs.declared.opening.OpenedImage.{OpenedImage}

-- A page is in its form, and the keys and the data of its nodes are bytes.
pub record HasByteNodes (p : PageContents) : Type 0 where
  pub page : IsPageOfBytes p
  pub keys : AllByRecursion (λ (n : Node). IsBytes n.key) p.nodes

abbrev pub HaveByteNodes : Frames → Type 0
HaveByteNodes frames = AllByRecursion (λ o. IfSome o HasByteNodes) frames

-- The trees of a table are as a store asks, and each of its long values is whole.
pub record IsSoundTable (number : ℕ) (t : TableContents) : Type 0 where
  pub stored : HasStoredTrees t
  pub whole : broken_values number t ≡ []

-- A space and an opened forest are those of an image whose tables are sound.
pub record MayBeMade (image : ImageContents) (frames : Frames) (forest : OpenedForest) : Type 0 where
  pub pages : frames ≡ image.pages
  pub forest_is : IsOpenedForest image forest
  pub tables : AllByRecursion (IsSoundTable image.number) (contents_in image)

-- The catalog is that of the image, the tables have what it has of them, and the nodes of the catalog name the roots of their trees.
pub record IsMadeForest (image : ImageContents) (made : MadeForest) : Type 0 where
  pub catalog : made.catalog ≡ catalog_of_told (told_in image)
  pub tables : made.trees.tables ≡ map stored_of (contents_in image)
  pub shows : ShowsCatalog made.trees.catalog made.catalog

-- The parts are those of a consistent image.
pub record HasItsParts (image : ImageContents) (number : ℕ) (made : MadeForest) (live : LoadedPart) : Type 0 where
  pub number_is : number ≡ image.number
  pub forest : IsMadeForest image made
  pub sessions : live.sessions ≡ (live_of image).sessions
  pub versions : live.versions ≡ (live_of image).held
  pub bytes : IsOfBytes image
  pub consistent : IsConsistent image

-- An image is opened, and is of bytes.
pub record IsOpenedOfBytes (image : ImageContents) (opened : OpenedImage) : Type 0 where
  pub is_opened : IsOpenedImage image opened
  pub nodes : HaveByteNodes image.pages
  pub live : IsBytes image.live

-- And it is consistent.
pub record CanBeMade (image : ImageContents) (opened : OpenedImage) : Type 0 where
  pub of_bytes : IsOpenedOfBytes image opened
  pub consistent : IsConsistent image

-- The image is consistent, and the engine is the one that is made of it.
pub record IsItsEngine (limit : ℕ) (image : ImageContents) (engine : EngineState) : Type 0 where
  pub consistent : IsConsistent image
  pub engine_is : engine ≡ engine_in limit image

-- An engine is made of a consistent image, or it is told what is found first.
abbrev pub MakesEngine : ℕ → ImageContents → Result EngineState ImageFault → Type 0
MakesEngine limit image (Ok engine) = IsItsEngine limit image engine
MakesEngine limit image (Err why) = Refuses (finding image) why
