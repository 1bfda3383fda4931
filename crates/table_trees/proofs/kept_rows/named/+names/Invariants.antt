use Rattle.std.proofs.Common.{length}
use Rattle.table_trees.proofs.kept_rows.named.+names.Given as goal

abbrev pub decreases-names : goal.decreases-names
decreases-names l = length l.values.now
