use Rattle.std.proofs.Common.{refl}
use Rattle.image_findings.specs.Opening.{opening}
use Rattle.image_findings.proofs.examples.findings_of_unique_keys.Goals as goal

pub returns-clause-two_records : goal.returns-clause-two_records
unfolding opening
returns-clause-two_records c = refl

pub returns-clause-brought : goal.returns-clause-brought
unfolding opening
returns-clause-brought c = refl
