-- What a write does to a file, and what a crash may leave of it.
use Rattle.std.specs.Prelude.{◌≡◌, ◌⊎◌, ◌<◌, ◌≤◌, ℕ, ◌+◌, ◌-◌, min, max, List, ◌++◌, length, take, drop, replicate}
use Rattle.jet_volume.specs.declared.files.File.{File}
use Rattle.jet_volume.specs.Image.{Image, file_bytes, SameBut}

-- the first n bytes, with zeros where there are fewer
abbrev pub padded : ℕ → List ℕ → List ℕ
padded n bytes = take n bytes ++ replicate (n - length bytes) 0

-- the bytes after a whole write at an offset; a gap behind the old end has zeros
abbrev pub written : ℕ → List ℕ → List ℕ → List ℕ
written at piece bytes = padded at bytes ++ piece ++ drop (at + length piece) bytes

-- After a write of n bytes at an offset that may have come in part: any bytes in the range and behind the old
-- end, the same bytes elsewhere, and a size from the old one to that of the whole write.
pub record Torn (at n : ℕ) (old new : List ℕ) : Type 0 where
  pub before : take (min at (length old)) new ≡ take at old
  pub after : drop (at + n) new ≡ drop (at + n) old
  pub no_shorter : length old ≤ length new
  pub no_longer : length new ≤ max (length old) (at + n)

-- the same of one file of an image; the others stay
pub record TornFile (file : File) (at n : ℕ) (old new : Image) : Type 0 where
  pub torn : Torn at n (file_bytes file old) (file_bytes file new)
  pub others : SameBut file old new

-- A volume has a clock, which does not fall, and tells for each moment up to now what a crash at that moment may
-- leave. A crash hits the four files together, so it leaves one image.
module _ {V : Type 0} (moment : V → ℕ) (left_at : V → ℕ → Image → Type 0) where
  -- each image that a crash now may leave has P
  abbrev pub CrashLeaves : V → (Image → Type 0) → Type 0
  CrashLeaves volume P = (image : Image) → left_at volume (moment volume) image → P image

  -- a crash leaves what is there, and nothing else
  abbrev pub IsSettled : (V → Image) → V → Type 0
  IsSettled seen volume = CrashLeaves volume (λ image. image ≡ seen volume)

  -- each image that a crash may leave after a call comes by this step from one that it might leave before
  abbrev pub CrashFollows : (Image → Image → Type 0) → V → V → Type 0
  CrashFollows step old new = CrashLeaves new (λ image. (before : Image) × left_at old (moment old) before × step before image)

  -- a crash at some moment from t to u might have left this image
  pub record LeftBetween (volume : V) (t u : ℕ) (image : Image) : Type 0 where
    pub at : ℕ
    pub since : t ≤ at
    pub by_then : at ≤ u
    pub left : left_at volume at image

  -- a crash at some moment since t might have left this image
  abbrev pub LeftSince : V → ℕ → Image → Type 0
  LeftSince volume t = LeftBetween volume t (moment volume)

  -- Time goes on by a call. It changes no image of the moments before, and a crash inside the call leaves what one
  -- before it or one after it may leave.
  pub record Elapses (old new : V) : Type 0 where
    pub later : moment old ≤ moment new
    pub no_more : (k : ℕ) (image : Image) → k < moment old → left_at new k image → left_at old k image
    pub no_fewer : (k : ℕ) (image : Image) → k ≤ moment old → left_at old k image → left_at new k image
    pub inside : (k : ℕ) (image : Image) → moment old ≤ k → k ≤ moment new → left_at new k image
        → left_at old (moment old) image ⊎ left_at new (moment new) image

  -- A crash at any moment since the old volume leaves an image that has P.
  pub record LeavesOnly (old new : V) (P : Image → Type 0) : Type 0 where
    pub later : moment old ≤ moment new
    pub each : (image : Image) → LeftSince new (moment old) image → P image
    -- for a run that began earlier: the moments before are what they were
    pub before : (k : ℕ) (image : Image) → k < moment old → left_at new k image → left_at old k image
