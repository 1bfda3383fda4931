use Rattle.std.proofs.Common.{refl}
use Rattle.image_findings.specs.Opening.{opening}
use Rattle.image_findings.proofs.examples.an_image_with_a_transaction_is_consistent.Goals as goal

pub returns : goal.returns
unfolding opening
returns c = refl
