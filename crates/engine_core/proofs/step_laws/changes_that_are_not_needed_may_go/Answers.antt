use Rattle.engine_core.proofs.Cleaned.{given_up}
use Rattle.engine_core.proofs.step_laws.changes_that_are_not_needed_may_go.Goals as goal

pub returns : goal.returns
returns c = given_up c.needed_changes_are_kept.ensures
