use Rattle.std.proofs.Common.{refl}
use Rattle.image_findings.specs.Opening.{opening}
use Rattle.image_findings.proofs.examples.findings_of_catalogs.Goals as goal

pub returns-clause-no_greatest : goal.returns-clause-no_greatest
unfolding opening
returns-clause-no_greatest c = refl

pub returns-clause-cut : goal.returns-clause-cut
unfolding opening
returns-clause-cut c = refl

pub returns-clause-index_number : goal.returns-clause-index_number
unfolding opening
returns-clause-index_number c = refl

pub returns-clause-names : goal.returns-clause-names
unfolding opening
returns-clause-names c = refl

pub returns-clause-of_a_sum : goal.returns-clause-of_a_sum
unfolding opening
returns-clause-of_a_sum c = refl
