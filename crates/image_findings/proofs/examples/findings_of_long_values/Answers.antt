use Rattle.std.proofs.Common.{refl}
use Rattle.image_findings.specs.Opening.{opening}
use Rattle.image_findings.proofs.examples.findings_of_long_values.Goals as goal

pub returns-clause-not_whole : goal.returns-clause-not_whole
unfolding opening
returns-clause-not_whole c = refl

pub returns-clause-length : goal.returns-clause-length
unfolding opening
returns-clause-length c = refl

pub returns-clause-not_there : goal.returns-clause-not_there
unfolding opening
returns-clause-not_there c = refl

pub returns-clause-forgotten : goal.returns-clause-forgotten
unfolding opening
returns-clause-forgotten c = refl

pub returns-clause-count : goal.returns-clause-count
unfolding opening
returns-clause-count c = refl
