use Rattle.std.proofs.Common.{refl}
use Rattle.image_findings.specs.Opening.{opening}
use Rattle.image_findings.proofs.examples.findings_of_entries.Goals as goal

pub returns-clause-missing : goal.returns-clause-missing
unfolding opening
returns-clause-missing c = refl

pub returns-clause-unwanted : goal.returns-clause-unwanted
unfolding opening
returns-clause-unwanted c = refl

pub returns-clause-before : goal.returns-clause-before
unfolding opening
returns-clause-before c = refl

pub returns-clause-extent : goal.returns-clause-extent
unfolding opening
returns-clause-extent c = refl
