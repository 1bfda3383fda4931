use Rattle.std.proofs.Common.{refl}
use Rattle.image_findings.specs.Opening.{opening}
use Rattle.image_findings.proofs.examples.images_of_another_writer_are_consistent.Goals as goal

pub returns-clause-plain : goal.returns-clause-plain
unfolding opening
returns-clause-plain c = refl

pub returns-clause-busy : goal.returns-clause-busy
unfolding opening
returns-clause-busy c = refl
