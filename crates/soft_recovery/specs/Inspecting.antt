-- What is told of a volume that is only looked at: its checkpoint, the log behind that, and what is recovered from the two.
use Rattle.std.specs.Prelude.{◌≡◌, ◌⊎◌, ℕ, ◌==◌, Bool, true, not, List, [], Option, Some, None, length, Result, Ok, Err}
use Rattle.checkpoint.specs.declared.image.Standing.{Standing}
use Rattle.checkpoint.specs.declared.rest.TheConstants.{FORMAT_VERSION}
use Rattle.image_findings.specs.Findings.{live_of}
use Rattle.jet_volume.specs.Crash.{IsSettled}
use Rattle.jet_volume.specs.Image.{Image as Files}
use Rattle.laws_engine.specs.EngineState.{EngineState}
use Rattle.recovered_states.specs.Recovers.{image_of}
use Rattle.soft_recovery.specs.Opening.{CountsCause}
use Rattle.soft_recovery.specs.Recovering.{HoldsRecovered}
use Rattle.soft_recovery.specs.Refusals.{IsFromOutside}
use Rattle.soft_recovery.specs.declared.found.FoundDatabase.{FoundDatabase}
use Rattle.soft_recovery.specs.declared.inspecting.Inspected.{Inspected}
use Rattle.soft_recovery.specs.declared.refusals.RecoverCause.{RecoverCause}
use Rattle.soft_recovery.specs.declared.refusals.RecoverFault.{RecoverFault}
use Rattle.store_core.specs.Stands.{Checkpoint, Stands}
use Rattle.store_core.specs.Store.{store_standing, store_volume, may_be_opened, IsCopyOf, IsOpened}
use Rattle.version_cleanup.specs.LiveSessions.{LiveState}

-- ---- a checkpoint

-- how many log entries led to it, and its sessions; a new volume has none
abbrev pub entries_of : Option Checkpoint → ℕ
entries_of None = 0
entries_of (Some checkpoint) = checkpoint.entries

abbrev pub sessions_of : Option Checkpoint → List LiveState
sessions_of None = []
sessions_of (Some checkpoint) = (live_of (image_of checkpoint)).sessions

abbrev pub has_session : Option Checkpoint → Bool
has_session checkpoint = not (length (sessions_of checkpoint) == 0)

-- the engine is as the checkpoint left it
abbrev pub HasNumbersOf : Option Checkpoint → EngineState → Type 0
HasNumbersOf checkpoint engine = (engine.number ≡ entries_of checkpoint) × (engine.sessions ≡ sessions_of checkpoint)

-- ---- a database

-- The engine holds what is recovered from a checkpoint and the bytes behind it, and the rest is of the checkpoint.
pub record IsFoundDatabase (checkpoint : Option Checkpoint) (stream : List ℕ) (database : FoundDatabase) : Type 0 where
  pub holds : HoldsRecovered checkpoint stream database.engine
  pub number : database.number ≡ entries_of checkpoint
  pub session : database.has_session ≡ has_session checkpoint

-- The copy in memory is of this checkpoint, which may be opened and has the format that is written; a new volume has the number 0 alone.
pub record IsStanding (checkpoint : Option Checkpoint) (standing : Standing) : Type 0 where
  pub within : may_be_opened checkpoint ≡ true
  pub copy : IsCopyOf checkpoint standing
  pub format : standing.format ≡ FORMAT_VERSION
  pub new : standing.number ≡ 0 → checkpoint ≡ None

-- ---- a volume

-- the volume that is handed back, or that the store has
abbrev pub inspected_volume : {V : Type 0} → Result (Inspected V) (RecoverFault V) → V
inspected_volume (Ok inspected) = store_volume inspected.store
inspected_volume (Err fault) = fault.volume

abbrev pub CountsInspectFault : {V : Type 0} → (V → ℕ) → V → Result (Inspected V) (RecoverFault V) → Type 0
CountsInspectFault faults volume (Ok inspected) = faults (store_volume inspected.store) ≡ faults volume
CountsInspectFault faults volume (Err fault) = CountsCause fault.cause (faults volume) (faults fault.volume)

-- it is refused for this cause, or for one that the files have no part in
abbrev pub IsNotInspectedFor : {V : Type 0} → RecoverCause → Result (Inspected V) (RecoverFault V) → Type 0
IsNotInspectedFor cause (Ok inspected) = ⊥
IsNotInspectedFor cause (Err fault) = (fault.cause ≡ cause) ⊎ IsFromOutside fault.cause

module _ (tells : Type 0) {V : Type 0} (seen : V → Files) (moment : V → ℕ) (left_at : V → ℕ → Files → Type 0) where
  -- A checkpoint was found on a volume, or none, and a stream of log bytes behind it, which stand there where the volume tells what it
  -- holds.
  pub record IsInspected (volume : V) (inspected : Inspected V) : Type 0 where
    pub checkpoint : Option Checkpoint
    pub stream : List ℕ
    pub standing : IsStanding checkpoint (store_standing inspected.store)
    pub database : IsFoundDatabase checkpoint stream inspected.database
    pub log : inspected.log.items ≡ stream
    pub stands : tells → Stands checkpoint stream (seen volume)
    pub only : tells → (other : Option Checkpoint) (bytes : List ℕ) → Stands other bytes (seen volume) → (other ≡ checkpoint) × (bytes ≡ stream)
    pub opened : tells → IsSettled moment left_at seen volume → IsOpened seen moment left_at inspected.store checkpoint stream
