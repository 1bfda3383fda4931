use Rattle.std.proofs.Common.{refl}
use Rattle.live_part.specs.Computing.{computing}
use Rattle.live_part.proofs.examples.bytes_of_two_sessions_and_two_changes.Goals as goal

pub returns-clause-bytes : goal.returns-clause-bytes
unfolding computing
returns-clause-bytes c = refl

pub returns-clause-fits : goal.returns-clause-fits
unfolding computing
returns-clause-fits c = refl

pub returns-clause-read : goal.returns-clause-read
unfolding computing
returns-clause-read c = refl

pub returns-clause-behind : goal.returns-clause-behind
unfolding computing
returns-clause-behind c = refl

pub returns-clause-short : goal.returns-clause-short
unfolding computing
returns-clause-short c = refl
