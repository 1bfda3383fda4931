-- An engine beside one that was made of its image.
use Rattle.std.specs.Prelude.{ℕ}
use Rattle.database_state.specs.State.{DatabaseState}
use Rattle.laws_engine.specs.EngineState.{EngineState}
use Rattle.laws_engine.specs.HeldRecords.{span}
use Rattle.laws_engine.specs.HoldsState.{HoldsState}
use Rattle.laws_engine.specs.InStep.{IsInStep}
use Rattle.session_local.specs.Local.{LocalState}
use Rattle.version_cleanup.specs.LiveSessions.{oldest_begin}
use Rattle.image_writing.specs.LighterStates.{DiffersInUndone}

-- what the held changes of an engine take of the version store's span
abbrev pub span_of : EngineState → ℕ
span_of engine = span (oldest_begin engine.sessions) engine.store.held

-- Two engines go alongside where they hold states that differ in undone changes, and the own states of all sessions are in step with
-- them.
pub record GoesAlongside (locals : ℕ → LocalState) (engine other : EngineState) : Type 0 where
  pub state : DatabaseState
  pub shown : DatabaseState
  pub holds : HoldsState engine state
  pub shows : HoldsState other shown
  pub differs : DiffersInUndone state shown
  pub in_step : (session : ℕ) → IsInStep state session (locals session)
