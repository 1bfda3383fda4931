use Rattle.session_local.proofs.Answered.{answered-kept}
use Rattle.session_local.proofs.laws.local_calls_keep_well_formed.Goals as goal

pub returns : goal.returns
returns c = answered-kept
