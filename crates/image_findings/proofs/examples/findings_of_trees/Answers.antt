use Rattle.std.proofs.Common.{refl}
use Rattle.image_findings.specs.Opening.{opening}
use Rattle.image_findings.proofs.examples.findings_of_trees.Goals as goal

pub returns-clause-no_tree : goal.returns-clause-no_tree
unfolding opening
returns-clause-no_tree c = refl

pub returns-clause-two_trees : goal.returns-clause-two_trees
unfolding opening
returns-clause-two_trees c = refl

pub returns-clause-free : goal.returns-clause-free
unfolding opening
returns-clause-free c = refl

pub returns-clause-bound : goal.returns-clause-bound
unfolding opening
returns-clause-bound c = refl
