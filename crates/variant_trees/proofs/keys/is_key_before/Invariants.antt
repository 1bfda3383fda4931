use Rattle.database_state.specs.Conflicts.{yields_key}
use Rattle.variant_trees.proofs.StandingChanges.{WalksBack, places_left}
use Rattle.table_trees.specs.StoredTables.{table_long_values}
use Rattle.variant_trees.proofs.keys.is_key_before.Given as goal

abbrev pub invariant-loop-at : goal.invariant-loop-at
invariant-loop-at l = WalksBack (table_long_values l.trees.tables) (yields_key l.rule l.schema l.key) l.fn.table.0 l.bookmark l.from l.versions l.at

abbrev pub decreases-loop-at : goal.decreases-loop-at
decreases-loop-at l = places_left l.at
