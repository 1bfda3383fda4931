-- How all sessions of an engine are given up without a log entry.
use Rattle.std.specs.Prelude.{◌≡◌, ℕ, ◌≤◌, Bool, true, List, if◌then◌else◌}
use Rattle.std.specs.List.{AllByRecursion}
use Rattle.database_state.specs.State.{DatabaseState}
use Rattle.version_cleanup.specs.LiveSessions.{LiveState, is_live, left}
use Rattle.laws_engine.specs.HeldRecords.{is_open_of}
use Rattle.laws_engine.specs.VersionedTables.{with_changes_undone}
use Rattle.laws_engine.specs.EngineState.{EngineState}
use Rattle.laws_engine.specs.HoldsState.{HoldsState}
use Rattle.loggable_steps.specs.Loggable.{is_label}

-- each session has a label, 1 to 99
abbrev pub HaveLabels : List LiveState → Type 0
HaveLabels sessions = AllByRecursion (λ s. is_label s.label ≡ true) sessions

-- without a session and its open changes; the number stays
abbrev pub without_session : ℕ → EngineState → EngineState
without_session label engine = record engine { sessions = left label engine.sessions; store = with_changes_undone (is_open_of label) engine.store }

abbrev pub without_live : ℕ → EngineState → EngineState
without_live label engine = if is_live label engine.sessions then without_session label engine else engine

-- By some number of entries the engine holds a state of the same committed tables.
pub record HoldsTables (state : DatabaseState) (engine : EngineState) : Type 0 where
  pub number : ℕ
  pub held : DatabaseState
  pub holds : HoldsState (record engine { number = number }) held
  pub tables : held.tables ≡ state.tables
  pub greatest : held.greatest_table ≡ state.greatest_table

-- The sessions with a label below this one are given up, of an engine whose labels are 1 to 99.
pub record IsGivenUpTo (label : ℕ) (old engine : EngineState) : Type 0 where
  pub limit : engine.limit ≡ old.limit
  pub number : engine.number ≡ old.number
  pub newest : engine.newest_put ≡ old.newest_put
  pub sessions : AllByRecursion (λ s. (label ≤ s.label) × (s.label ≤ 99)) engine.sessions
  pub holds : (state : DatabaseState) → HoldsState old state → HoldsTables state engine
