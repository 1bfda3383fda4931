-- What may stand on the files while a store flushes, writes an image and flushes again.
use Rattle.std.specs.Prelude.{◌≡◌, ◌⊎◌, ℕ, ◌+◌, List, [], ◌++◌, Option, Some}
use Rattle.jet_volume.specs.declared.files.LogStart.{LogStart}
use Rattle.jet_volume.specs.Image.{Image as Files}
use Rattle.checkpoint.specs.declared.image.Image.{Image}
use Rattle.store_core.specs.Stands.{Checkpoint, Stands}
use Rattle.store_core.specs.Store.{checkpoint_of}

-- The checkpoint from before stands there with its stream, or with the first bytes behind it; or the image stands there
-- as the next checkpoint, with no byte behind it, or with the second bytes.
abbrev pub StandsOnTheWay : Option Checkpoint → List ℕ → List ℕ → Checkpoint → List ℕ → Files → Type 0
StandsOnTheWay checkpoint stream first next second files =
    (Stands checkpoint stream files ⊎ Stands checkpoint (stream ++ first) files) ⊎ (Stands (Some next) [] files ⊎ Stands (Some next) second files)

-- the image as the next checkpoint, behind so many bytes of the log
pub record IsNext (image : Image) (number position : ℕ) (next : Checkpoint) : Type 0 where
  pub start : LogStart
  pub position_is : start.position ≡ position
  pub is : next ≡ checkpoint_of (number + 1) start image
