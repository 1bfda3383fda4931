-- When the engine is where the run of a script has come to, and what its sessions hold.
use Rattle.std.specs.Prelude.{◌≡◌, ◌⊎◌, ℕ, []}
use Rattle.session_local.specs.Local.{LocalState}
use Rattle.session_local.specs.Run.{RunState, session_run}
use Rattle.session_local.specs.SessionSide.{SessionSide}
use Rattle.laws_engine.specs.InStep.{IsInStep}
use Rattle.laws_engine.specs.EngineState.{EngineState, HasRoomForEnds}
use Rattle.laws_engine.specs.HoldsState.{HoldsState}

-- the own state of each session of a run
abbrev pub locals_of : RunState → ℕ → LocalState
locals_of run session = (session_run run session).local

-- The number of the log has room for all that is to end, or nothing is to end: an engine without sessions may have any number.
abbrev pub EndsFindRoom : EngineState → Type 0
EndsFindRoom engine = HasRoomForEnds engine ⊎ (engine.sessions ≡ [])

-- The engine, with this limit of its span, holds the state of the run, with which the own states of all sessions are in step.
-- The number of its log has room for all that is to end.
pub record HoldsRun (limit : ℕ) (engine : EngineState) (run : RunState) : Type 0 where
  pub limit_is : engine.limit ≡ limit
  pub holds : HoldsState engine run.state
  pub room : EndsFindRoom engine
  pub in_step : (session : ℕ) → IsInStep run.state session (locals_of run session)

-- What a session holds by itself is its part of the run: its own state, and the count of entries after its last call that looked
-- at the shared state.
pub record IsInRun (run : RunState) (side : SessionSide) (last : ℕ) : Type 0 where
  pub part : session_run run side.session ≡ record { local = side.state; last = last }
