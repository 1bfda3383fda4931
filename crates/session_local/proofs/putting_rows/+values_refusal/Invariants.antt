use Rattle.std.proofs.Common.{length}
use Rattle.session_local.proofs.putting_rows.+values_refusal.Given as goal

abbrev pub decreases-values_refusal : goal.decreases-values_refusal
decreases-values_refusal l = length l.columns.now
