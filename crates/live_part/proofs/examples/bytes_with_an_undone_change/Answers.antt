use Rattle.std.proofs.Common.{refl}
use Rattle.live_part.specs.Computing.{computing}
use Rattle.live_part.proofs.examples.bytes_with_an_undone_change.Goals as goal

pub returns-clause-bytes : goal.returns-clause-bytes
unfolding computing
returns-clause-bytes c = refl

pub returns-clause-whole : goal.returns-clause-whole
unfolding computing
returns-clause-whole c = refl

pub returns-clause-opened : goal.returns-clause-opened
unfolding computing
returns-clause-opened c = refl

pub returns-clause-undone : goal.returns-clause-undone
unfolding computing
returns-clause-undone c = refl
