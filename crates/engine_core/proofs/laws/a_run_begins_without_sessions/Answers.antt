use Rattle.std.proofs.Common.{refl}
use Rattle.database_state.specs.State.{empty_state}
use Rattle.laws_engine.specs.EngineState.{empty_engine}
use Rattle.engine_core.proofs.Runs.{opened-run}
use Rattle.engine_core.proofs.laws.a_run_begins_without_sessions.Goals as goal

pub returns-clause-opened : goal.returns-clause-opened
returns-clause-opened c = opened-run

pub returns-clause-empty : goal.returns-clause-empty
returns-clause-empty c = λ limit. opened-run (empty_engine limit) empty_state (c.an_empty_engine_holds_the_empty_state.ensures.holds limit) refl
