use Rattle.std.proofs.Common.{refl}
use Rattle.live_part.specs.Computing.{computing}
use Rattle.live_part.proofs.examples.bytes_of_nothing.Goals as goal

pub returns-clause-bytes : goal.returns-clause-bytes
unfolding computing
returns-clause-bytes c = refl

pub returns-clause-read : goal.returns-clause-read
unfolding computing
returns-clause-read c = refl
