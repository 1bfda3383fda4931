use Rattle.session_local.proofs.Kept.{navigated-kept}
use Rattle.session_local.proofs.laws.navigation_keeps_well_formed.Goals as goal

pub returns : goal.returns
returns c = navigated-kept
