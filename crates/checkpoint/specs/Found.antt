-- What reading a volume answers.
use Rattle.std.specs.Prelude.{◌≡◌, ◌<◌, ◌≤◌, ◌^◌, ℕ, List, [], Option, Result, Ok, Err}
use Rattle.jet_volume.specs.declared.files.LogStart.{LogStart}
use Rattle.jet_volume.specs.Image.{Image as Files}
use Rattle.page_image.specs.Page.{PageContents}
use Rattle.checkpoint.specs.declared.rest.TheConstants.{FORMAT_VERSION, MAX_OFFSET}
use Rattle.checkpoint.specs.declared.image.Image.{Image}
use Rattle.checkpoint.specs.declared.image.Standing.{Standing}
use Rattle.checkpoint.specs.declared.image.Found.{Found}
use Rattle.checkpoint.specs.declared.image.Found.TheVariants as found
use Rattle.checkpoint.specs.declared.fault.CheckFault.{CheckFault}
use Rattle.checkpoint.specs.declared.fault.CheckFault.TheVariants.{CheckpointCorrupt, LogSequenceEnd, ReadVerifyFailure, VolumeFault, OutOfMemory}
use Rattle.checkpoint.specs.Contents.{Contents}
use Rattle.checkpoint.specs.Opening.{verdict, IsNew, HasCheckpoint, HoldsPages, HasBadSlot}
use Rattle.checkpoint.specs.Opening.Verdict.{New, Corrupt, SequenceEnd, Stands}
use Rattle.checkpoint.specs.Shape.{IsInShape, contents_of}

-- The numbers of a checkpoint that was read, over every volume: its own number, its number of log entries, and where
-- the log goes on.
pub record IsWithinBounds (k entries : ℕ) (start : LogStart) : Type 0 where
  pub first : 1 ≤ k
  pub number : k < 2 ^ 62
  pub entries_fit : entries < 2 ^ 62
  pub generation : 1 ≤ start.generation
  pub generation_fits : start.generation < 2 ^ 62
  pub offset : start.offset ≤ MAX_OFFSET
  pub position : start.position < 2 ^ 62

-- What stands on a new volume: the number 0, and a log that begins at its first byte.
pub record IsNothing (standing : Standing) : Type 0 where
  pub number : standing.number ≡ 0
  pub format : standing.format ≡ FORMAT_VERSION
  pub start : standing.start ≡ record { generation = 1; offset = 0; position = 0 }
  pub pages : standing.pages.items ≡ []
  pub slots : standing.slots.items ≡ []

-- An image was read with its standing checkpoint, which has a copy of its pages and its slots.
pub record IsImageOf (image : Image) (standing : Standing) : Type 0 where
  pub shape : IsInShape image
  pub format : standing.format ≡ FORMAT_VERSION
  pub pages : standing.pages.items ≡ image.pages.items
  pub slots : standing.slots.items ≡ image.slots.items
  pub bounds : IsWithinBounds standing.number image.number standing.start

-- what holds of every answer, also over a volume that does not tell what it holds
abbrev pub IsAnswer : Found → Standing → Type 0
IsAnswer found.New standing = IsNothing standing
IsAnswer (found.Old image) standing = IsImageOf image standing

-- the contents of the file that an image was read from
abbrev pub contents_read : Image → Standing → Contents
contents_read image standing = contents_of standing.number standing.start image.slots.items image

-- no other pages stand in these slots
abbrev pub HoldsOnly : List ℕ → List ℕ → List (Option PageContents) → Type 0
HoldsOnly database slots pages = HoldsPages database slots pages × ((others : List (Option PageContents)) → HoldsPages database slots others → others ≡ pages)

-- An image was found: the verdict on the files is the contents of its file, which stand with its pages and no others.
pub record FindsImage (files : Files) (image : Image) (standing : Standing) : Type 0 where
  pub stands : verdict files ≡ Stands (contents_read image standing)
  pub checkpoint : HasCheckpoint files (contents_read image standing) image.pages.items
  pub only : (others : List (Option PageContents)) → HoldsPages files.database image.slots.items others → others ≡ image.pages.items

-- what was found on the files of a volume
abbrev pub Finds : Files → Found → Standing → Type 0
Finds files found.New standing = (verdict files ≡ New) × IsNew files
Finds files (found.Old image) standing = FindsImage files image standing

-- What a refusal says of the files. Want of memory says nothing, and a fault of the volume shows in its count.
abbrev pub Explains : Files → CheckFault → Type 0
Explains files CheckpointCorrupt = verdict files ≡ Corrupt
Explains files LogSequenceEnd = verdict files ≡ SequenceEnd
Explains files ReadVerifyFailure = (c : Contents) × (verdict files ≡ Stands c) × HasBadSlot files.database c.slots
Explains files VolumeFault = Unit {0}
Explains files OutOfMemory = Unit {0}

-- a refusal that the files have no part in
abbrev pub IsFromOutside : CheckFault → Type 0
IsFromOutside CheckpointCorrupt = ⊥
IsFromOutside LogSequenceEnd = ⊥
IsFromOutside ReadVerifyFailure = ⊥
IsFromOutside VolumeFault = Unit {0}
IsFromOutside OutOfMemory = Unit {0}

-- the volume's count of faults rises at a fault of the volume, and stays at every other answer
abbrev pub CountsCheckFault : {T : Type 0} → Result T CheckFault → ℕ → ℕ → Type 0
CountsCheckFault (Ok value) before now = now ≡ before
CountsCheckFault (Err CheckpointCorrupt) before now = now ≡ before
CountsCheckFault (Err LogSequenceEnd) before now = now ≡ before
CountsCheckFault (Err ReadVerifyFailure) before now = now ≡ before
CountsCheckFault (Err VolumeFault) before now = before < now
CountsCheckFault (Err OutOfMemory) before now = now ≡ before

-- the answer is the image of these contents with these pages
abbrev pub IsRead : Contents → List (Option PageContents) → Found → Standing → Type 0
IsRead c pages found.New standing = ⊥
IsRead c pages (found.Old image) standing = (contents_read image standing ≡ c) × (image.pages.items ≡ pages)

-- the answer is a new volume
abbrev pub IsNewAnswer : Found → Type 0
IsNewAnswer found.New = Unit {0}
IsNewAnswer (found.Old image) = ⊥
