use Rattle.std.proofs.Common.{refl}
use Rattle.image_findings.specs.Opening.{opening}
use Rattle.image_findings.proofs.examples.an_undone_change_is_let_through.Goals as goal

pub returns : goal.returns
unfolding opening
returns c = refl
