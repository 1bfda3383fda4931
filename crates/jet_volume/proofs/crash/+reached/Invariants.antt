use Rattle.std.proofs.Common.{length}
use Rattle.jet_volume.proofs.crash.+reached.Given as goal

abbrev pub decreases-reached : goal.decreases-reached
decreases-reached l = length l.calls.now
