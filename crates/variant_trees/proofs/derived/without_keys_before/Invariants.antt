use Rattle.std.proofs.Common.{ℕ, List}
use Rattle.database_state.specs.Conflicts.{yields_key}
use Rattle.table_trees.specs.StoredTables.{table_long_values}
use Rattle.variant_trees.proofs.KeysLeft.{KeysLeft}
use Rattle.variant_trees.proofs.StandingChanges.{places_left}
use Rattle.variant_trees.proofs.derived.without_keys_before.Given as goal

abbrev pub invariant-loop-at : goal.invariant-loop-at
invariant-loop-at l = KeysLeft (table_long_values l.trees.tables) (λ (key : List ℕ). yields_key l.rule l.schema key) l.fn.table.0 l.bookmark l.from l.versions l.fn.keys l.left l.at

abbrev pub decreases-loop-at : goal.decreases-loop-at
decreases-loop-at l = places_left l.at
