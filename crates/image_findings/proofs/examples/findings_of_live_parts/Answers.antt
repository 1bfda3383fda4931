use Rattle.std.proofs.Common.{refl}
use Rattle.image_findings.specs.Opening.{opening}
use Rattle.image_findings.proofs.examples.findings_of_live_parts.Goals as goal

pub returns-clause-orphan : goal.returns-clause-orphan
unfolding opening
returns-clause-orphan c = refl

pub returns-clause-at_a_begin : goal.returns-clause-at_a_begin
unfolding opening
returns-clause-at_a_begin c = refl

pub returns-clause-not_apart : goal.returns-clause-not_apart
unfolding opening
returns-clause-not_apart c = refl

pub returns-clause-dropped : goal.returns-clause-dropped
unfolding opening
returns-clause-dropped c = refl

pub returns-clause-no_sum : goal.returns-clause-no_sum
unfolding opening
returns-clause-no_sum c = refl

pub returns-clause-undone_row : goal.returns-clause-undone_row
unfolding opening
returns-clause-undone_row c = refl

pub returns-clause-to_end : goal.returns-clause-to_end
unfolding opening
returns-clause-to_end c = refl

pub returns-clause-no_part : goal.returns-clause-no_part
unfolding opening
returns-clause-no_part c = refl
