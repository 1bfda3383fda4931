use Rattle.std.proofs.Common.{length}
use Rattle.jet_volume.proofs.crash.+settled.Given as goal

abbrev pub decreases-settled : goal.decreases-settled
decreases-settled l = length l.calls.now
