use Rattle.engine_core.proofs.Runs.{beside-run}
use Rattle.engine_core.proofs.laws.a_run_holds_its_sessions.Goals as goal

pub returns : goal.returns
returns c = λ limit engine run side last held is.
    beside-run limit engine run side last (c.sessions_are_told.ensures.live engine run.state held.holds) (c.sessions_in_step_are_well_formed.ensures engine run.state held.holds) held is
