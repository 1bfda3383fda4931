use Rattle.session_local.proofs.Kept.{agrees-kept}
use Rattle.session_local.proofs.laws.agreeing_states_are_well_formed.Goals as goal

pub returns : goal.returns
returns c = agrees-kept
