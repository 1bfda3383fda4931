-- What is read after a checkpoint was written over what stood on a volume.
use Rattle.std.specs.Prelude.{ℕ, ◌+◌, List, Option}
use Rattle.jet_volume.specs.declared.files.LogStart.{LogStart}
use Rattle.jet_volume.specs.Image.{Image as Files}
use Rattle.page_image.specs.Page.{PageContents}
use Rattle.checkpoint.specs.declared.image.Image.{Image}
use Rattle.checkpoint.specs.declared.image.Standing.{Standing}
use Rattle.checkpoint.specs.declared.image.Found.{Found}
use Rattle.checkpoint.specs.Contents.{Contents}
use Rattle.checkpoint.specs.Opening.{IsNew, HasCheckpoint}
use Rattle.checkpoint.specs.Shape.{IsStanding, contents_of}
use Rattle.checkpoint.specs.Found.{IsNewAnswer, IsRead}

-- what is read is what stands on these files
pub record IsReadOf (files : Files) (answer : Found) (standing : Standing) : Type 0 where
  pub new : IsNew files → IsNewAnswer answer
  pub old : (c : Contents) (pages : List (Option PageContents)) → HasCheckpoint files c pages → IsRead c pages answer standing

-- what is read is this image, as the checkpoint after the one that stands on these files
abbrev pub IsNextRead : Files → LogStart → Image → Found → Standing → Type 0
IsNextRead files start image answer standing =
    (before : Standing) × IsStanding before files × (slots : List ℕ) × IsRead (contents_of (before.number + 1) start slots image) image.pages.items answer standing
