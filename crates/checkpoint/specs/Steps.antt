-- What each part of writing a checkpoint does to what a crash may leave.
use Rattle.std.specs.Prelude.{◌≡◌, ◌≢◌, ◌⊎◌, ℕ, ◌+◌, ◌<◌, ◌≤◌, List, ◌∷◌, ◌++◌, Option, Some, None, false, ◌==◌, if◌then◌else◌, length, slice_index, slice_index_or}
use Rattle.jet_volume.specs.declared.files.File.{File}
use Rattle.jet_volume.specs.declared.files.File.TheVariants.{Database}
use Rattle.jet_volume.specs.Image.{Image, file_bytes, SameBut}
use Rattle.jet_volume.specs.Crash.{LeavesOnly}
use Rattle.page_image.specs.declared.spelling.TheConstants.{PAGE_BYTES}
use Rattle.page_image.specs.Page.{PageContents, page_bytes}
use Rattle.checkpoint.specs.Contents.{Contents, bytes_behind_gate}
use Rattle.checkpoint.specs.Opening.{slot_start, slot_of, has_open_gate, KeepsCheckpoint, BringsCheckpoint}

module _ {V : Type 0} (moment : V → ℕ) (left_at : V → ℕ → Image → Type 0) where
  -- each image that a crash since the old volume may leave comes by this step from one that it might leave then
  abbrev pub EachFollows : (Image → Image → Type 0) → V → V → Type 0
  EachFollows step old new = LeavesOnly moment left_at old new (λ image. (before : Image) × left_at old (moment old) before × step before image)

-- the slot of a page that its checkpoint does not use
abbrev pub other_slot : ℕ → ℕ
other_slot slot = if slot == 0 then 1 else 0

-- every slot but one of one page holds what it held, and every file but the database is the same
pub record SparesAllBut (number slot : ℕ) (before image : Image) : Type 0 where
  pub others : SameBut Database before image
  pub no_shorter : length before.database ≤ length image.database
  pub spared : (p s : ℕ) → (p ≡ number → s ≢ slot) → s < 2 → slot_start p s + PAGE_BYTES ≤ length before.database → slot_of image.database p s ≡ slot_of before.database p s

-- every slot in use holds what it held, and every file but the database is the same
pub record SparesSlots (slots : List ℕ) (before image : Image) : Type 0 where
  pub others : SameBut Database before image
  pub no_shorter : length before.database ≤ length image.database
  pub spared : (p : ℕ) → slice_index_or slots p 2 < 2 → slot_start p (slice_index_or slots p 2) + PAGE_BYTES ≤ length before.database
      → slot_of image.database p (slice_index_or slots p 2) ≡ slot_of before.database p (slice_index_or slots p 2)

-- a gate byte stands there, and is not open
pub record IsShut (bytes : List ℕ) : Type 0 where
  pub some : 1 ≤ length bytes
  pub closed : slice_index bytes 0 ≢ 1

-- the other files stay, and this one too, or its gate is closed
pub record ClosesGate (file : File) (before image : Image) : Type 0 where
  pub others : SameBut file before image
  pub gate : (file_bytes file image ≡ file_bytes file before) ⊎ (has_open_gate (file_bytes file image) ≡ false)

-- the other files stay, and of this one the first byte
pub record KeepsFirst (file : File) (before image : Image) : Type 0 where
  pub others : SameBut file before image
  pub some : 1 ≤ length (file_bytes file before) → 1 ≤ length (file_bytes file image)
  pub first : 1 ≤ length (file_bytes file before) → slice_index (file_bytes file image) 0 ≡ slice_index (file_bytes file before) 0

-- the other files stay, and this one is closed, or open over these bytes
pub record OpensGate (file : File) (behind : List ℕ) (before image : Image) : Type 0 where
  pub others : SameBut file before image
  pub gate : (has_open_gate (file_bytes file image) ≡ false) ⊎ (file_bytes file image ≡ 1 ∷ behind)

-- the file has an open gate, and says this behind it
abbrev pub SaysOpenly : Contents → List ℕ → Type 0
SaysOpenly c bytes = (tail : List ℕ) × (bytes ≡ 1 ∷ (bytes_behind_gate c ++ tail))

-- the page of the standing checkpoint has the bytes of this one
abbrev pub HasSameBytes : Option PageContents → PageContents → Type 0
HasSameBytes None page = ⊥
HasSameBytes (Some old) page = page_bytes old ≡ page_bytes page

-- A page is dirty where the standing checkpoint has in use no page of its number with the same bytes. A free page is not.
abbrev pub IsDirty : Option PageContents → ℕ → Option PageContents → Type 0
IsDirty old slot None = ⊥
IsDirty old slot (Some page) = HasSameBytes old page → slot < 2 → ⊥

-- both slots of every page that is not dirty hold what they held
pub record SparesClean (dirty : ℕ → Type 0) (before image : Image) : Type 0 where
  pub no_shorter : length before.database ≤ length image.database
  pub spared : (p s : ℕ) → (dirty p → ⊥) → s < 2 → slot_start p s + PAGE_BYTES ≤ length before.database → slot_of image.database p s ≡ slot_of before.database p s

-- Where a page goes: it keeps its slot where the standing checkpoint has a page of its number with the same bytes, and
-- else takes the slot that is not in use. A free page has none.
abbrev pub TakesSlot : Option PageContents → ℕ → Option PageContents → ℕ → Type 0
TakesSlot old slot None next = next ≡ 2
TakesSlot old slot (Some page) next = (HasSameBytes old page × (slot < 2) × (next ≡ slot)) ⊎ ((HasSameBytes old page → slot < 2 → ⊥) × (next ≡ other_slot slot))

-- the slot of a page in the list of an image that is being written: the one from before, or the one where the page goes
abbrev pub KeepsOrTakesSlot : Option PageContents → ℕ → Option PageContents → ℕ → ℕ → Type 0
KeepsOrTakesSlot old slot page before next = (next ≡ before) ⊎ TakesSlot old slot page next

-- the other files stay, and this one too, or its gate is closed, or it is open and says what it is to say
pub record WritesFile (file : File) (c : Contents) (before image : Image) : Type 0 where
  pub others : SameBut file before image
  pub gate : (file_bytes file image ≡ file_bytes file before) ⊎ ((has_open_gate (file_bytes file image) ≡ false) ⊎ SaysOpenly c (file_bytes file image))

-- what stands on the volume before stands still, or the new checkpoint does, with pages in some slots
abbrev pub KeepsOrBrings : (List ℕ → Contents) → List (Option PageContents) → Image → Image → Type 0
KeepsOrBrings contents pages before image = KeepsCheckpoint before image ⊎ ((slots : List ℕ) × BringsCheckpoint (contents slots) pages before image)
