use Rattle.std.proofs.Common.{length}
use Rattle.record_edit.proofs.numbers.+from_lowest.Given as goal

abbrev pub decreases-from_lowest : goal.decreases-from_lowest
decreases-from_lowest l = length l.bytes.now
