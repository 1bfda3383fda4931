use Rattle.std.proofs.Common.{length}
use Rattle.table_trees.proofs.kept_rows.releasing.+release_values.Given as goal

abbrev pub decreases-release_values : goal.decreases-release_values
decreases-release_values l = length l.values.now
