-- What refuses a checkpoint with the bytes of the log behind it, and the files of a volume.
use Rattle.std.specs.Prelude.{◌≡◌, ℕ, true, List, Option, Some, None}
use Rattle.checkpoint.specs.declared.fault.CheckFault.{CheckFault}
use Rattle.checkpoint.specs.declared.fault.CheckFault.TheVariants as check
use Rattle.checkpoint.specs.Found.{Explains}
use Rattle.database_state.specs.State.{DatabaseState}
use Rattle.engine_image.specs.FoundFaults.{finding_told}
use Rattle.engine_image.specs.declared.fault.Finding.{Finding}
use Rattle.engine_image.specs.declared.fault.ImageFault.{ImageFault}
use Rattle.engine_image.specs.declared.fault.ImageFault.TheVariants as image
use Rattle.image_findings.specs.Findings.{IsConsistent, finding}
use Rattle.jet_volume.specs.Image.{Image as Files}
use Rattle.recovered_states.specs.Recovers.{RecoversFrom, image_of}
use Rattle.store_core.specs.Stands.{Checkpoint, Stands}
use Rattle.store_core.specs.Store.{may_be_opened}
use Rattle.soft_recovery.specs.declared.refusals.EngineFault.{EngineFault}
use Rattle.soft_recovery.specs.declared.refusals.EngineFault.TheVariants as engine
use Rattle.soft_recovery.specs.declared.refusals.RecoverCause.{RecoverCause}
use Rattle.soft_recovery.specs.declared.refusals.RecoverCause.TheVariants as cause

-- ---- a checkpoint, and the bytes of the log behind it

-- the image of the checkpoint is consistent; a new volume has none
abbrev pub HasConsistentImage : Option Checkpoint → Type 0
HasConsistentImage None = Unit {0}
HasConsistentImage (Some checkpoint) = IsConsistent (image_of checkpoint)

-- this is found first of the image
abbrev pub HasFinding : Finding → Option Checkpoint → Type 0
HasFinding found None = ⊥
HasFinding found (Some checkpoint) = finding (image_of checkpoint) ≡ Some (finding_told found)

-- The image is consistent, and no state is recovered from it with these bytes behind it.
pub record HasCorruptLog (checkpoint : Option Checkpoint) (stream : List ℕ) : Type 0 where
  pub consistent : HasConsistentImage checkpoint
  pub none : (state : DatabaseState) → RecoversFrom checkpoint stream state → ⊥

-- what a refusal says of the image, and of both; want of memory says nothing
abbrev pub RefusesImage : Option Checkpoint → ImageFault → Type 0
RefusesImage checkpoint (image.NotSound found) = HasFinding found checkpoint
RefusesImage checkpoint image.OutOfMemory = Unit {0}

abbrev pub RefusesEngine : Option Checkpoint → List ℕ → EngineFault → Type 0
RefusesEngine checkpoint stream (engine.DatabaseCorrupted found) = HasFinding found checkpoint
RefusesEngine checkpoint stream engine.LogFileCorrupt = HasCorruptLog checkpoint stream
RefusesEngine checkpoint stream engine.OutOfMemory = Unit {0}

-- ---- files

-- A checkpoint stands on the files, within the bounds of an opening, and it has this with the bytes of the log behind it.
pub record StandsWith (has : Option Checkpoint → List ℕ → Type 0) (files : Files) : Type 0 where
  pub checkpoint : Option Checkpoint
  pub stream : List ℕ
  pub stands : Stands checkpoint stream files
  pub within : may_be_opened checkpoint ≡ true
  pub is : has checkpoint stream

-- The files are refused for this cause: no check before it fails. A fault of the volume and want of memory are no causes of theirs.
abbrev pub Refuses : Files → RecoverCause → Type 0
Refuses files cause.CheckpointCorrupt = Explains files check.CheckpointCorrupt
Refuses files cause.LogSequenceEnd = Explains files check.LogSequenceEnd
Refuses files cause.ReadVerifyFailure = Explains files check.ReadVerifyFailure
Refuses files (cause.DatabaseCorrupted found) = StandsWith (λ checkpoint stream. HasFinding found checkpoint) files
Refuses files cause.LogFileCorrupt = StandsWith HasCorruptLog files
Refuses files cause.VolumeFault = ⊥
Refuses files cause.OutOfMemory = ⊥

-- a refusal that the files have no part in
abbrev pub IsFromOutside : RecoverCause → Type 0
IsFromOutside cause.CheckpointCorrupt = ⊥
IsFromOutside cause.LogSequenceEnd = ⊥
IsFromOutside cause.ReadVerifyFailure = ⊥
IsFromOutside (cause.DatabaseCorrupted found) = ⊥
IsFromOutside cause.LogFileCorrupt = ⊥
IsFromOutside cause.VolumeFault = Unit {0}
IsFromOutside cause.OutOfMemory = Unit {0}

-- ---- causes of parts

abbrev pub cause_of_check : CheckFault → RecoverCause
cause_of_check check.CheckpointCorrupt = cause.CheckpointCorrupt
cause_of_check check.LogSequenceEnd = cause.LogSequenceEnd
cause_of_check check.ReadVerifyFailure = cause.ReadVerifyFailure
cause_of_check check.VolumeFault = cause.VolumeFault
cause_of_check check.OutOfMemory = cause.OutOfMemory

abbrev pub cause_of_engine : EngineFault → RecoverCause
cause_of_engine (engine.DatabaseCorrupted found) = cause.DatabaseCorrupted found
cause_of_engine engine.LogFileCorrupt = cause.LogFileCorrupt
cause_of_engine engine.OutOfMemory = cause.OutOfMemory
