-- What stands on the four files of a volume: a checkpoint, or none, and the stream of log bytes behind it.
use Rattle.std.specs.Prelude.{◌≡◌, ◌≤◌, ◌⊎◌, ℕ, List, [], ◌++◌, Option, Some, None, length, slice_index_or}
use Rattle.jet_volume.specs.declared.files.LogStart.{LogStart}
use Rattle.jet_volume.specs.Image.{Image}
use Rattle.page_image.specs.Page.{PageContents}
use Rattle.log_ring.specs.Appends.{Gives}
use Rattle.checkpoint.specs.Contents.{Contents}
use Rattle.checkpoint.specs.declared.image.Standing.{Standing}
use Rattle.checkpoint.specs.declared.image.TheConstants.{MAX_PAGES}
use Rattle.checkpoint.specs.Opening.{IsNew, HasCheckpoint}

-- What a checkpoint holds, whichever slots its pages lie in: its own number, the number of log entries, where the log
-- goes on, the root of the catalog, the pages by their numbers, and the live part.
pub record Checkpoint : Type 0 where
  pub number : ℕ
  pub entries : ℕ
  pub start : LogStart
  pub catalog_root : ℕ
  pub pages : List (Option PageContents)
  pub live : List ℕ

-- what the file of a checkpoint says, where its pages lie in these slots
abbrev pub contents_in_slots : List ℕ → Checkpoint → Contents
contents_in_slots slots c = record {
  number = c.number;
  entries = c.entries;
  start = c.start;
  catalog_root = c.catalog_root;
  slots = slots;
  live = c.live;
}

-- where the log of a volume begins
abbrev pub first_start : LogStart
first_start = record { generation = 1; offset = 0; position = 0 }

-- the number of a checkpoint, 0 where there is none
abbrev pub number_of : Option Checkpoint → ℕ
number_of None = 0
number_of (Some c) = c.number

-- where the log goes on behind a checkpoint, and where it begins without one
abbrev pub start_of : Option Checkpoint → LogStart
start_of None = first_start
start_of (Some c) = c.start

-- the pages of a checkpoint
abbrev pub pages_of : Option Checkpoint → List (Option PageContents)
pages_of None = []
pages_of (Some c) = c.pages

-- the files have this checkpoint, with its pages in these slots, or are new
abbrev pub ShowsIn : List ℕ → Option Checkpoint → Image → Type 0
ShowsIn slots None image = IsNew image
ShowsIn slots (Some c) image = HasCheckpoint image (contents_in_slots slots c) c.pages

-- A checkpoint stands on the files, or they are new, and their log gives this stream behind it.
pub record Stands (checkpoint : Option Checkpoint) (stream : List ℕ) (image : Image) : Type 0 where
  pub slots : List ℕ
  pub shows : ShowsIn slots checkpoint image
  pub gives : Gives (start_of checkpoint) stream image.log

-- the stream from before stands there, or that stream with the new bytes behind it
abbrev pub StandsBeforeOrAfter : Option Checkpoint → List ℕ → List ℕ → Image → Type 0
StandsBeforeOrAfter checkpoint stream bytes image = Stands checkpoint stream image ⊎ Stands checkpoint (stream ++ bytes) image

-- the old checkpoint stands there with its stream, or the new one with none
abbrev pub StandsOldOrNew : Option Checkpoint → List ℕ → Checkpoint → Image → Type 0
StandsOldOrNew checkpoint stream new image = Stands checkpoint stream image ⊎ Stands (Some new) [] image

-- the pages and slots of a standing checkpoint are those of an image in shape
pub record IsShaped (standing : Standing) : Type 0 where
  pub slots : length standing.slots.items ≡ length standing.pages.items
  pub few : length standing.pages.items ≤ MAX_PAGES
  pub numbers : (p : ℕ) (page : PageContents) → slice_index_or standing.pages.items p None ≡ Some page → page.number ≡ p
