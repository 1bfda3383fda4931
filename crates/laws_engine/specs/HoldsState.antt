-- When an engine with versions holds a database state.
use Rattle.std.specs.Prelude.{◌≡◌, ℕ, ◌==◌, ◌≤◌, true, List, map, if◌then◌else◌}
use Rattle.database_state.specs.State.{DatabaseState, PastChange}
use Rattle.laws_versions.specs.Records.{Records}
use Rattle.laws_versions.specs.History.{EachTwo, LabelsRise}
use Rattle.laws_versions.specs.EachRecord.{EachRecordHas}
use Rattle.laws_versions.specs.StoredRecords.{IsStored}
use Rattle.version_cleanup.specs.LiveSessions.{live_state}
use Rattle.laws_engine.specs.Holding.{Holds}
use Rattle.laws_engine.specs.LawfulSteps.{IsReached}
use Rattle.session_local.specs.Local.{LocalState}
use Rattle.session_local.specs.Outcome.{CallInputs}
use Rattle.laws_engine.specs.InStep.{IsInStep}
use Rattle.session_local.specs.BuiltTables.{are_built}
use Rattle.laws_engine.specs.EngineState.{EngineState}

-- The engine holds a state that lawful entries reach: its tables and held changes hold it, its sessions are those of the state
-- without their snapshots, and its number is that of the state, up to which all puts came. Each record fits its row and its
-- columns, and all is built.
pub record HoldsState (engine : EngineState) (state : DatabaseState) : Type 0 where
  pub base : Records
  pub dropped : List PastChange
  pub kept : List PastChange
  pub reached : IsReached base dropped kept state
  pub holds : Holds base dropped kept engine.store state
  pub stored : EachRecordHas IsStored base kept state
  pub number : state.number ≡ engine.number
  pub greatest : state.greatest_table ≡ engine.greatest_table
  pub newest : engine.newest_put ≤ engine.number
  pub sessions : map live_state state.sessions ≡ engine.sessions
  pub labels : EachTwo LabelsRise state.sessions
  pub built : are_built state.tables ≡ true

-- a call as it is asked of a state that the engine holds
abbrev pub inputs_of : EngineState → DatabaseState → ℕ → LocalState → CallInputs
inputs_of engine state session local = record { limit = engine.limit; state = state; session = session; local = local }

-- a state that the engine holds, with which a session's own state is in step
pub record HoldsInStep (engine : EngineState) (session : ℕ) (local : LocalState) : Type 0 where
  pub state : DatabaseState
  pub holds : HoldsState engine state
  pub in_step : IsInStep state session local

-- ---- all sessions

-- a state that the engine holds, with which the own states of all sessions are in step
pub record HoldsAllInStep (engine : EngineState) (locals : ℕ → LocalState) : Type 0 where
  pub state : DatabaseState
  pub holds : HoldsState engine state
  pub in_step : (session : ℕ) → IsInStep state session (locals session)

-- the own states of the sessions with that of one changed
abbrev pub with_local : ℕ → LocalState → (ℕ → LocalState) → ℕ → LocalState
with_local session local locals other = if other == session then local else locals other
