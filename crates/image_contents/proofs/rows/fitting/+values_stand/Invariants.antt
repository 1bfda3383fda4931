use Rattle.std.proofs.Common.{length}
use Rattle.image_contents.proofs.rows.fitting.+values_stand.Given as goal

abbrev pub decreases-values_stand : goal.decreases-values_stand
decreases-values_stand l = length l.values.now
