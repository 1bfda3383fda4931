use Rattle.laws_engine.proofs.EngineLemmas.WellFormed.{session_formed}
use Rattle.laws_engine.proofs.engine.formed.sessions_in_step_are_well_formed.Goals as goal

pub returns : goal.returns
returns c = session_formed
