-- What each part of reading answers.
use Rattle.std.specs.Prelude.{◌≡◌, ◌<◌, ℕ, List, Option, Some, true, MatchOption}
use Rattle.jet_volume.specs.declared.files.File.{File}
use Rattle.jet_volume.specs.Crash.{LeavesOnly}
use Rattle.jet_volume.specs.Image.{Image as Files, file_bytes}
use Rattle.page_image.specs.Page.{PageContents}
use Rattle.checkpoint.specs.declared.looking.Fixed.{Fixed}
use Rattle.checkpoint.specs.declared.file.Slots.{Slots}
use Rattle.checkpoint.specs.declared.file.FileContents.{FileContents}
use Rattle.checkpoint.specs.declared.fault.CheckFault.{CheckFault}
use Rattle.checkpoint.specs.declared.fault.CheckFault.TheVariants.{CheckpointCorrupt, LogSequenceEnd, ReadVerifyFailure, VolumeFault, OutOfMemory}
use Rattle.checkpoint.specs.Contents.{contents_in, has_head, has_slots, is_checkpoint_file, live_length, page_count, slot_bytes}
use Rattle.checkpoint.specs.Opening.{file_verdict, looked_at, HoldsPage, SlotSays}
use Rattle.checkpoint.specs.Opening.Verdict.{Corrupt, SequenceEnd, Stands}
use Rattle.checkpoint.specs.Shape.{contents_with}

-- a crash at any moment from old to new leaves what one before them might have left
abbrev pub LooksOnly : {V : Type 0} → (V → ℕ) → (V → ℕ → Files → Type 0) → V → V → Type 0
LooksOnly moment left_at old new = LeavesOnly moment left_at old new (left_at old (moment old))

-- the numbers of a fixed part are those of a file
pub record IsFixedOf (fixed : Fixed) (file : File) (bytes : List ℕ) : Type 0 where
  pub head : has_head file bytes ≡ true
  pub count : fixed.count ≡ page_count bytes
  pub says : (slots live : List ℕ) → contents_with fixed.head slots live ≡ record (contents_in bytes) { slots = slots; live = live }

-- the slots are those of a file, and so is the length of the live part behind them
pub record IsSlotsOf (slots : Slots) (bytes : List ℕ) : Type 0 where
  pub has : has_slots bytes ≡ true
  pub items : slots.items.items ≡ slot_bytes bytes
  pub live_length : slots.live_length ≡ live_length bytes

-- what was told is what a checkpoint file says
pub record IsContentsOf (told : FileContents) (file : File) (bytes : List ℕ) : Type 0 where
  pub is_file : is_checkpoint_file file bytes ≡ true
  pub says : contents_with told.head told.slots.items told.live.items ≡ contents_in bytes

-- what was told is what the file that is looked at says, and its numbers may go on
pub record IsLookedAt (told : FileContents) (files : Files) : Type 0 where
  pub file : File
  pub looked_at : looked_at files ≡ Some file
  pub verdict : file_verdict file (file_bytes file files) ≡ Stands (contents_with told.head told.slots.items told.live.items)
  pub says : IsContentsOf told file (file_bytes file files)

-- what a refusal says of the file that is looked at
abbrev pub ExplainsFile : File → List ℕ → CheckFault → Type 0
ExplainsFile file bytes CheckpointCorrupt = file_verdict file bytes ≡ Corrupt
ExplainsFile file bytes LogSequenceEnd = file_verdict file bytes ≡ SequenceEnd
ExplainsFile file bytes ReadVerifyFailure = ⊥
ExplainsFile file bytes VolumeFault = Unit {0}
ExplainsFile file bytes OutOfMemory = Unit {0}

-- a slot says this of its page, and nothing else
pub record SaysOnly (database : List ℕ) (number slot : ℕ) (page : Option PageContents) : Type 0 where
  pub says : SlotSays database number slot page
  pub only : (other : Option PageContents) → SlotSays database number slot other → other ≡ page

-- a slot in use holds no page
pub record IsBadSlot (database : List ℕ) (number slot : ℕ) : Type 0 where
  pub in_use : slot < 2
  pub no_page : (page : PageContents) → HoldsPage database number slot page → ⊥

-- what a refusal says of slots: this of one, or nothing
abbrev pub ExplainsSlots : Type 0 → CheckFault → Type 0
ExplainsSlots bad CheckpointCorrupt = ⊥
ExplainsSlots bad LogSequenceEnd = ⊥
ExplainsSlots bad ReadVerifyFailure = bad
ExplainsSlots bad VolumeFault = Unit {0}
ExplainsSlots bad OutOfMemory = Unit {0}

-- a page bears its number
abbrev pub BearsNumber : ℕ → Option PageContents → Type 0
BearsNumber number page = MatchOption page (Unit {0}) (λ p. p.number ≡ number)
