-- What is recovered of a volume, and what becomes of the volume.
use Rattle.std.specs.Prelude.{◌≡◌, ◌<◌, ◌⊎◌, ℕ, ◌+◌, ◌^◌, Bool, true, List, Option, None, Result, Ok, Err}
use Rattle.checkpoint.specs.Parts.{LooksOnly}
use Rattle.jet_volume.specs.Crash.{IsSettled}
use Rattle.jet_volume.specs.Image.{Image as Files}
use Rattle.soft_recovery.specs.Recovering.{HoldsRecovered}
use Rattle.soft_recovery.specs.Refusals.{IsFromOutside}
use Rattle.soft_recovery.specs.declared.opening.Recovered.{Recovered}
use Rattle.soft_recovery.specs.declared.refusals.RecoverCause.{RecoverCause}
use Rattle.soft_recovery.specs.declared.refusals.RecoverCause.TheVariants as cause
use Rattle.soft_recovery.specs.declared.refusals.RecoverFault.{RecoverFault}
use Rattle.store_core.specs.declared.store.Store.{Store}
use Rattle.store_core.specs.Stands.{Checkpoint, Stands}
use Rattle.store_core.specs.Store.{store_down, store_end, store_standing, store_volume, may_be_opened, IsCopyOf, IsOpened, IsWritable}

-- the volume that is handed back, or that the store has
abbrev pub volume_of : {V : Type 0} → Result (Recovered V) (RecoverFault V) → V
volume_of (Ok recovered) = store_volume recovered.store
volume_of (Err fault) = fault.volume

-- The bounds of a store that was opened: no call met a fault, and its numbers are those of a checkpoint and of a ring behind it.
pub record HasOpeningBounds {V : Type 0} (store : Store V) : Type 0 where
  pub up : store_down store ≡ None
  pub number : (store_standing store).number < 2 ^ 62
  pub generation : (store_end store).generation < 2 ^ 62 + 2 ^ 24
  pub position : (store_end store).position < 2 ^ 62 + 2 ^ 24

-- the count of faults rises at a fault of the volume, and stays at every other answer
abbrev pub CountsCause : RecoverCause → ℕ → ℕ → Type 0
CountsCause cause.CheckpointCorrupt before now = now ≡ before
CountsCause cause.LogSequenceEnd before now = now ≡ before
CountsCause cause.ReadVerifyFailure before now = now ≡ before
CountsCause (cause.DatabaseCorrupted found) before now = now ≡ before
CountsCause cause.LogFileCorrupt before now = now ≡ before
CountsCause cause.VolumeFault before now = before < now
CountsCause cause.OutOfMemory before now = now ≡ before

abbrev pub CountsRecoverFault : {V : Type 0} → (V → ℕ) → V → Result (Recovered V) (RecoverFault V) → Type 0
CountsRecoverFault faults volume (Ok recovered) = faults (store_volume recovered.store) ≡ faults volume
CountsRecoverFault faults volume (Err fault) = CountsCause fault.cause (faults volume) (faults fault.volume)

-- it is refused for this cause, or for one that the files have no part in
abbrev pub IsRefusedFor : {V : Type 0} → RecoverCause → Result (Recovered V) (RecoverFault V) → Type 0
IsRefusedFor cause (Ok recovered) = ⊥
IsRefusedFor cause (Err fault) = (fault.cause ≡ cause) ⊎ IsFromOutside fault.cause

module _ {V : Type 0} (seen : V → Files) (moment : V → ℕ) (left_at : V → ℕ → Files → Type 0) where
  -- Nothing was written: a read gives the same, and a crash at any moment leaves what one before might have left.
  pub record IsUntouched (old new : V) : Type 0 where
    pub read : seen new ≡ seen old
    pub any_moment : LooksOnly moment left_at old new

-- A checkpoint was found on a volume, or none, and a stream of log bytes behind it, which stand there where the volume tells what it holds.
-- The engine holds what is recovered from the two, and tells nothing else. The store has a copy of the checkpoint; over a volume that was
-- settled it stands there, and its log can be appended to where it was sealed.
module _ (tells : Type 0) {V : Type 0} (seen : V → Files) (moment : V → ℕ) (left_at : V → ℕ → Files → Type 0) where
  pub record IsRecovered (sealed : Bool) (volume : V) (recovered : Recovered V) : Type 0 where
    pub checkpoint : Option Checkpoint
    pub stream : List ℕ
    pub within : may_be_opened checkpoint ≡ true
    pub copy : IsCopyOf checkpoint (store_standing recovered.store)
    pub holds : HoldsRecovered checkpoint stream recovered.engine
    pub stands : tells → Stands checkpoint stream (seen volume)
    pub only : tells → (other : Option Checkpoint) (bytes : List ℕ) → Stands other bytes (seen volume) → (other ≡ checkpoint) × (bytes ≡ stream)
    pub opened : tells → IsSettled moment left_at seen volume → IsOpened seen moment left_at recovered.store checkpoint stream
    pub writable : sealed ≡ true → tells → IsSettled moment left_at seen volume → IsWritable seen moment left_at recovered.store checkpoint stream
