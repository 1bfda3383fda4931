-- What is known of a volume before a call and after it.
use Rattle.std.specs.Prelude.{◌≡◌, ◌⊎◌, ℕ, ◌+◌, List, Option}
use Rattle.database_state.specs.State.{DatabaseState}
use Rattle.jet_volume.specs.declared.files.LogStart.{LogStart}
use Rattle.jet_volume.specs.Image.{Image as Files}
use Rattle.jet_volume.specs.Crash.{CrashLeaves, IsSettled, LeavesOnly}
use Rattle.log_ring.specs.Blocks.{Scans}
use Rattle.store_core.specs.Stands.{Checkpoint, Stands, number_of, start_of}
use Rattle.recovered_states.specs.Recovers.{Recovers}
use Rattle.soft_recovery.specs.declared.refusals.RecoverCause.{RecoverCause}
use Rattle.soft_recovery.specs.Opening.{IsUntouched}
use Rattle.soft_recovery.specs.Refusals.{IsFromOutside, Refuses}
use Rattle.kept_engine.specs.Keeping.{StandsAlone}

pub record VolumeSide : Type 1 where
  -- its files recover to this state
  pub recovers : DatabaseState → Type 0
  -- they are refused for this cause, or it is one that they have no part in
  pub refuses : RecoverCause → Type 0
  -- this checkpoint, or none, stands on them, and this stream of log bytes behind it
  pub stands : Option Checkpoint → List ℕ → Type 0
  -- they are refused for none
  pub accepts : Type 0
  -- the files that a crash at any moment since the call began may leave have this
  pub since : (Files → Type 0) → Type 0
  -- the files that a crash may leave when it ends have this
  pub now : (Files → Type 0) → Type 0
  -- So many checkpoints were written, which the number of the one before and the end of the log behind it tell; no byte of a log stands
  -- behind the last.
  pub checkpoints : (ℕ → LogStart → ℕ) → Type 0
  -- nothing was written
  pub is_unwritten : Type 0
  -- no call of it was made
  pub is_unused : Type 0

-- What is said of the files holds of a volume that tells what it holds; what is said of a crash, where the volume was settled at first.
module _ (tells : Type 0) {V : Type 0} (seen : V → Files) (moment : V → ℕ) (left_at : V → ℕ → Files → Type 0) where
  abbrev pub volume_side : V → V → VolumeSide
  volume_side old new = record {
    recovers = λ state. tells → Recovers (seen old) state;
    refuses = λ cause. tells → Refuses (seen old) cause ⊎ IsFromOutside cause;
    stands = λ checkpoint stream. tells → Stands checkpoint stream (seen old);
    accepts = tells → (cause : RecoverCause) → Refuses (seen old) cause → ⊥;
    since = λ Has. tells → IsSettled moment left_at seen old → LeavesOnly moment left_at old new Has;
    now = λ Has. tells → IsSettled moment left_at seen old → CrashLeaves moment left_at new Has;
    checkpoints = λ count. tells → IsSettled moment left_at seen old → (checkpoint : Option Checkpoint) (stream : List ℕ) → Stands checkpoint stream (seen old)
        → (end : LogStart) × Scans (seen old).log (start_of checkpoint) stream end × CrashLeaves moment left_at new (StandsAlone (number_of checkpoint + count (number_of checkpoint) end));
    is_unwritten = IsUntouched seen moment left_at old new;
    is_unused = new ≡ old;
  }
