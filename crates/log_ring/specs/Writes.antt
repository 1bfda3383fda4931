-- What is done to the log file of a volume, and to no other.
use Rattle.std.specs.Prelude.{◌≡◌, ℕ, List}
use Rattle.jet_volume.specs.declared.files.File.TheVariants.{Log}
use Rattle.jet_volume.specs.Image.{Image, SameBut}
use Rattle.jet_volume.specs.Crash.{CrashLeaves, LeavesOnly}

module _ {V : Type 0} (seen : V → Image) (moment : V → ℕ) (left_at : V → ℕ → Image → Type 0) where
  -- the log file has these bytes, and a crash leaves them
  pub record LogIs (volume : V) (log : List ℕ) : Type 0 where
    pub read : (seen volume).log ≡ log
    pub left : CrashLeaves moment left_at volume (λ image. image.log ≡ log)

-- the image is one that a crash of the volume might leave, but for its log, which came by this step
pub record ChangesLog {V : Type 0} (moment : V → ℕ) (left_at : V → ℕ → Image → Type 0) (volume : V) (step : List ℕ → List ℕ → Type 0) (image : Image) : Type 0 where
  pub from : Image
  pub left : left_at volume (moment volume) from
  pub others : SameBut Log from image
  pub log : step from.log image.log

-- a crash at any moment from old to new changes the log by this step, and no other file
abbrev pub LogGoes : {V : Type 0} → (V → ℕ) → (V → ℕ → Image → Type 0) → (List ℕ → List ℕ → Type 0) → V → V → Type 0
LogGoes moment left_at step old new = LeavesOnly moment left_at old new (ChangesLog moment left_at old step)

-- a crash at any moment from old to new leaves what one before them might have left
abbrev pub LooksOnly : {V : Type 0} → (V → ℕ) → (V → ℕ → Image → Type 0) → V → V → Type 0
LooksOnly moment left_at old new = LeavesOnly moment left_at old new (left_at old (moment old))
