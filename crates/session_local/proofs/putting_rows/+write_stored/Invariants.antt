use Rattle.std.proofs.Common.{length}
use Rattle.session_local.proofs.putting_rows.+write_stored.Given as goal

abbrev pub decreases-write_stored : goal.decreases-write_stored
decreases-write_stored l = length l.columns.now
