-- Images and standing checkpoints in memory, and what they are on a volume.
use Rattle.std.specs.Prelude.{◌≡◌, ◌⊎◌, ℕ, ◌≤◌, List, [], Option, None, length, MatchOption, slice_index_or}
use Rattle.jet_volume.specs.declared.files.LogStart.{LogStart}
use Rattle.jet_volume.specs.Image.{Image as Files}
use Rattle.page_image.specs.Page.{PageContents}
use Rattle.checkpoint.specs.declared.image.Image.{Image}
use Rattle.checkpoint.specs.declared.image.TheConstants.{MAX_LIVE_BYTES, MAX_PAGES}
use Rattle.checkpoint.specs.declared.image.Standing.{Standing}
use Rattle.checkpoint.specs.declared.rest.Head.{Head}
use Rattle.checkpoint.specs.Contents.{Contents}
use Rattle.checkpoint.specs.Opening.{IsNew, HasCheckpoint}

-- the page at place p bears the number p
abbrev pub HasOwnNumber : List (Option PageContents) → ℕ → Type 0
HasOwnNumber pages p = MatchOption (slice_index_or pages p None) (Unit {0}) (λ page. page.number ≡ p)

-- An image in shape: one slot for each page, and within the bounds of a checkpoint file.
pub record IsInShape (image : Image) : Type 0 where
  pub slots : length image.slots.items ≡ length image.pages.items
  pub pages : length image.pages.items ≤ MAX_PAGES
  pub live : length image.live.items ≤ MAX_LIVE_BYTES
  pub numbers : (p : ℕ) → HasOwnNumber image.pages.items p

-- what a file says with these numbers, slots and live part
abbrev pub contents_with : Head → List ℕ → List ℕ → Contents
contents_with head slots live = record {
  number = head.number;
  entries = head.entries;
  start = head.start;
  catalog_root = head.catalog_root;
  slots = slots;
  live = live;
}

-- what the file of an image says, with these slots, as checkpoint number k with this log start
abbrev pub contents_of : ℕ → LogStart → List ℕ → Image → Contents
contents_of number start slots image = record {
  number = number;
  entries = image.number;
  start = start;
  catalog_root = image.catalog_root;
  slots = slots;
  live = image.live.items;
}

-- A volume has the standing checkpoint, or is new where the number is 0.
abbrev pub IsStanding : Standing → Files → Type 0
IsStanding standing files =
    ((standing.number ≡ 0) × IsNew files × (standing.slots.items ≡ []) × (standing.pages.items ≡ []))
    ⊎ ((c : Contents) × HasCheckpoint files c standing.pages.items × (c.number ≡ standing.number) × (c.slots ≡ standing.slots.items))
