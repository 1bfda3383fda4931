-- What is opened of a volume, and what becomes of the volume.
use Rattle.std.specs.Prelude.{◌≡◌, ◌⊎◌, ℕ, ◌+◌, List, [], Option, Result, Ok, Err}
use Rattle.database_state.specs.State.{DatabaseState}
use Rattle.jet_volume.specs.Crash.{CrashLeaves, IsSettled, LeavesOnly}
use Rattle.jet_volume.specs.Image.{Image as Files}
use Rattle.entry_log.specs.LogState.{empty_stream}
use Rattle.log_ring.specs.Blocks.{Scans}
use Rattle.laws_engine.specs.HoldsState.{HoldsState}
use Rattle.laws_images.specs.SoundStates.{IsSoundState}
use Rattle.loggable_steps.specs.Replays.{opened_state}
use Rattle.store_core.specs.Stands.{Checkpoint, Stands, number_of, start_of}
use Rattle.store_core.specs.Store.{IsOpened}
use Rattle.recovered_states.specs.Recovers.{Recovers, RecoversFrom, RecoversUpTo}
use Rattle.soft_recovery.specs.declared.opening.Recovered.{Recovered}
use Rattle.soft_recovery.specs.declared.refusals.RecoverCause.{RecoverCause}
use Rattle.soft_recovery.specs.Opening.{CountsCause}
use Rattle.soft_recovery.specs.Refusals.{IsFromOutside}
use Rattle.kept_engine.specs.declared.kept.KeptEngine.{KeptEngine}
use Rattle.kept_engine.specs.declared.opening.OpenFault.{OpenFault}
use Rattle.kept_engine.specs.Keeping.{kept_depth, kept_given, kept_logged, kept_span, kept_volume, Keeps, StandsAlone}
use Rattle.kept_engine.specs.Spans.{LogSpan}

-- The state that an engine was opened with, as long as it has made nothing: it has no session, so its tables are the committed ones.
abbrev pub opening_of : {V : Type 0} → KeptEngine V → DatabaseState
opening_of kept = opened_state (kept_logged kept).engine

-- the volume that is handed back, or that the engine is kept on
abbrev pub opened_volume : {V : Type 0} → Result (KeptEngine V) (OpenFault V) → V
opened_volume (Ok kept) = kept_volume kept
opened_volume (Err fault) = fault.volume

-- it is refused for this cause, or for one that the files have no part in
abbrev pub IsOpeningRefusedFor : {V : Type 0} → RecoverCause → Result (KeptEngine V) (OpenFault V) → Type 0
IsOpeningRefusedFor cause (Ok kept) = ⊥
IsOpeningRefusedFor cause (Err fault) = (fault.cause ≡ cause) ⊎ IsFromOutside fault.cause

-- the count of faults rises at a fault of the volume, and stays at every other answer
abbrev pub CountsOpeningFault : {V : Type 0} → (V → ℕ) → V → Result (KeptEngine V) (OpenFault V) → Type 0
CountsOpeningFault faults volume (Ok kept) = faults (kept_volume kept) ≡ faults volume
CountsOpeningFault faults volume (Err fault) = CountsCause fault.cause (faults volume) (faults fault.volume)

-- It has no session, and its log begins: no byte of it was given, and none stands behind its checkpoint.
pub record IsAtOpening {V : Type 0} (limit depth : ℕ) (kept : KeptEngine V) : Type 0 where
  pub limit_is : (kept_logged kept).engine.limit ≡ limit
  pub depth_is : kept_depth kept ≡ depth
  pub sessions : (kept_logged kept).engine.sessions ≡ []
  pub stream : (kept_logged kept).stream ≡ empty_stream
  pub given : kept_given kept ≡ 0
  pub start : (kept_span kept).start ≡ (kept_span kept).end

-- It is of the next checkpoint behind one that stood on the files with a stream, and begins where that ended.
pub record IsNextSpan (checkpoint : Option Checkpoint) (stream : List ℕ) (files : Files) (span : LogSpan) : Type 0 where
  pub number : span.number ≡ number_of checkpoint + 1
  pub start : span.start ≡ span.end
  pub end : Scans files.log (start_of checkpoint) stream span.end

module _ {V : Type 0} (seen : V → Files) (moment : V → ℕ) (left_at : V → ℕ → Files → Type 0) where
  -- The store stands for a checkpoint with a stream behind it, and the engine holds what is recovered from these.
  pub record HoldsWhatStands (recovered : Recovered V) (opening : DatabaseState) : Type 0 where
    pub holds : HoldsState recovered.engine opening
    pub sound : IsSoundState opening
    pub checkpoint : Option Checkpoint
    pub stream : List ℕ
    pub from : RecoversFrom checkpoint stream opening
    pub opened : IsOpened seen moment left_at recovered.store checkpoint stream

module _ (tells : Type 0) {V : Type 0} (seen : V → Files) (moment : V → ℕ) (left_at : V → ℕ → Files → Type 0) where
  -- The engine holds what the volume recovers to, and keeps it; and a crash at any moment since leaves what recovers to it. Behind the
  -- volume's checkpoint it has written the next one, with no byte behind that.
  pub record IsOpenedOn (volume : V) (kept : KeptEngine V) : Type 0 where
    pub holds : HoldsState (kept_logged kept).engine (opening_of kept)
    pub sound : IsSoundState (opening_of kept)
    pub recovers : tells → Recovers (seen volume) (opening_of kept)
    pub any_moment : tells → IsSettled moment left_at seen volume → LeavesOnly moment left_at volume (kept_volume kept) (RecoversUpTo (opening_of kept) [] 0)
    pub keeps : tells → IsSettled moment left_at seen volume → Keeps seen moment left_at (opening_of kept) [] kept
    pub next : tells → IsSettled moment left_at seen volume → (checkpoint : Option Checkpoint) (stream : List ℕ) → Stands checkpoint stream (seen volume) → IsNextSpan checkpoint stream (seen volume) (kept_span kept)
    pub alone : tells → IsSettled moment left_at seen volume → (checkpoint : Option Checkpoint) (stream : List ℕ) → Stands checkpoint stream (seen volume)
        → CrashLeaves moment left_at (kept_volume kept) (StandsAlone (number_of checkpoint + 1))
