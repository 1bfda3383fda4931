use Rattle.table_versions.proofs.RecordConflicts.{Walks, up_to}
use Rattle.table_versions.proofs.conflicting_keys.conflict_in.Given as goal
use Rattle.table_trees.specs.StoredTables.{table_long_values}

abbrev pub invariant-loop-found : goal.invariant-loop-found
invariant-loop-found l =
    Walks (table_long_values l.trees.tables) (record { reader = l.reader; rule = l.rule; schema = l.schema; key = l.key; newest = l.newest; table = l.fn.table.0; bookmark = l.bookmark }) l.versions l.found l.after

abbrev pub decreases-loop-found : goal.decreases-loop-found
decreases-loop-found l = up_to l.found
