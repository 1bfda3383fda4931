use Rattle.std.proofs.Common.{length}
use Rattle.session_local.proofs.putting_rows.+cut.Given as goal

abbrev pub decreases-cut : goal.decreases-cut
decreases-cut l = length l.columns.now
