-- Which checkpoint stands on the four files of a volume.
use Rattle.std.specs.Prelude.{◌≡◌, ℕ, ◌+◌, ◌*◌, ◌<◌, ◌≤◌, List, [], ◌∷◌, Option, Some, None, Bool, true, false, ◌&&◌, ◌==◌, nat_le, nat_lt, if◌then◌else◌, length, take, drop, slice_index, slice_index_or}
use Rattle.jet_volume.specs.declared.files.File.{File}
use Rattle.jet_volume.specs.declared.files.File.TheVariants.{CheckpointA, CheckpointB}
use Rattle.jet_volume.specs.Image.{Image, file_bytes}
use Rattle.page_image.specs.declared.spelling.TheConstants.{PAGE_BYTES}
use Rattle.page_image.specs.Page.{PageContents, IsPage, page_bytes}
use Rattle.checkpoint.specs.Contents.{Contents, contents_in, number_at, file_of, is_checkpoint_file, may_go_on}

-- A file's first byte is its gate, where a byte follows it. The gate is open where it is 1.
abbrev pub has_open_gate : List ℕ → Bool
has_open_gate bytes = nat_le 2 (length bytes) && slice_index bytes 0 == 1

-- the number by which two open files are compared, none where the file is too short to have one
abbrev pub shown_number : List ℕ → Option ℕ
shown_number bytes = if nat_le 18 (length bytes) then Some (number_at 8 10 bytes) else None

-- the second of two open files is the greater one; a file without a number counts as greater
abbrev pub is_greater : Option ℕ → Option ℕ → Bool
is_greater None b = false
is_greater (Some a) None = true
is_greater (Some a) (Some b) = nat_lt a b

-- the file to look at, by the two gates and the two numbers; where neither is greater it is the first
abbrev pub chosen : Bool → Bool → Option ℕ → Option ℕ → Option File
chosen false false a b = None
chosen true false a b = Some CheckpointA
chosen false true a b = Some CheckpointB
chosen true true a b = Some (if is_greater a b then CheckpointB else CheckpointA)

-- the file that is looked at, none where no gate is open
abbrev pub looked_at : Image → Option File
looked_at image = chosen (has_open_gate image.checkpoint_a) (has_open_gate image.checkpoint_b) (shown_number image.checkpoint_a) (shown_number image.checkpoint_b)

-- what the two checkpoint files and the log say, before any page is read
pub data Verdict : Type 0 where
  New : Verdict
  Corrupt : Verdict
  SequenceEnd : Verdict
  Stands : Contents → Verdict

-- the verdict on one file
abbrev pub file_verdict : File → List ℕ → Verdict
file_verdict file bytes = if is_checkpoint_file file bytes then (if may_go_on (contents_in bytes) then Stands (contents_in bytes) else SequenceEnd) else Corrupt

abbrev pub is_empty : List ℕ → Bool
is_empty [] = true
is_empty (x ∷ xs) = false

abbrev pub verdict_at : Option File → Image → Verdict
verdict_at None image = if is_empty image.log then New else Corrupt
verdict_at (Some file) image = file_verdict file (file_bytes file image)

abbrev pub verdict : Image → Verdict
verdict image = verdict_at (looked_at image) image

-- A volume is new where no gate is open and the log has no byte.
pub record IsNew (image : Image) : Type 0 where
  pub no_gate : looked_at image ≡ None
  pub no_log : image.log ≡ []

-- where a slot of a page begins in the database file, in which each page has two slots side by side
abbrev pub slot_start : ℕ → ℕ → ℕ
slot_start page slot = PAGE_BYTES * (2 * page + slot)

-- the bytes of a slot
abbrev pub slot_of : List ℕ → ℕ → ℕ → List ℕ
slot_of database page slot = take PAGE_BYTES (drop (slot_start page slot) database)

-- A slot holds a page: it is whole, its bytes are a page's, and the page bears its own number.
pub record HoldsPage (database : List ℕ) (number slot : ℕ) (page : PageContents) : Type 0 where
  pub one_of_two : slot < 2
  pub whole : slot_start number slot + PAGE_BYTES ≤ length database
  pub is_page : IsPage page
  pub bytes : slot_of database number slot ≡ page_bytes page
  pub own_number : page.number ≡ number

-- what the slot of a page says: a page, or that the page is free
abbrev pub SlotSays : List ℕ → ℕ → ℕ → Option PageContents → Type 0
SlotSays database number slot None = slot ≡ 2
SlotSays database number slot (Some page) = HoldsPage database number slot page

-- the pages of a checkpoint, in the slots that it names
pub record HoldsPages (database : List ℕ) (slots : List ℕ) (pages : List (Option PageContents)) : Type 0 where
  pub count : length slots ≡ length pages
  pub each : (p : ℕ) → p < length pages → SlotSays database p (slice_index_or slots p 2) (slice_index_or pages p None)

-- a slot in use that holds no page
abbrev pub HasBadSlot : List ℕ → List ℕ → Type 0
HasBadSlot database slots = (p : ℕ) × (p < length slots) × (slice_index_or slots p 2 < 2) × ((page : PageContents) → HoldsPage database p (slice_index_or slots p 2) page → ⊥)

-- A checkpoint stands on an image: the file looked at is its file, says it, and its slots hold its pages.
pub record HasCheckpoint (image : Image) (c : Contents) (pages : List (Option PageContents)) : Type 0 where
  pub file : looked_at image ≡ Some (file_of c.number)
  pub is_file : is_checkpoint_file (file_of c.number) (file_bytes (file_of c.number) image) ≡ true
  pub says : contents_in (file_bytes (file_of c.number) image) ≡ c
  pub holds : HoldsPages image.database c.slots pages

-- what stands on one image stands on the other, with the same log
pub record KeepsCheckpoint (before image : Image) : Type 0 where
  pub log : image.log ≡ before.log
  pub new : IsNew before → IsNew image
  pub old : (c : Contents) (pages : List (Option PageContents)) → HasCheckpoint before c pages → HasCheckpoint image c pages

-- a new checkpoint stands on an image, with the log of the one before
pub record BringsCheckpoint (c : Contents) (pages : List (Option PageContents)) (before image : Image) : Type 0 where
  pub log : image.log ≡ before.log
  pub stands : HasCheckpoint image c pages
