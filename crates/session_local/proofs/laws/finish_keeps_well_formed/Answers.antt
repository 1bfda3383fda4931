use Rattle.session_local.proofs.Kept.{finished-kept}
use Rattle.session_local.proofs.laws.finish_keeps_well_formed.Goals as goal

pub returns : goal.returns
returns c = finished-kept
