use Rattle.std.proofs.Common.{◌≡◌}
use Rattle.table_trees.specs.StoredTables.{table_nodes}
use Rattle.variant_trees.proofs.FilledIndexes.{IsFilledTo}
use Rattle.stored_variants.proofs.NodeWalks.{nodes_left}
use Rattle.variant_trees.proofs.new_entries.fill.Given as goal

abbrev pub invariant-loop-bookmark : goal.invariant-loop-bookmark
invariant-loop-bookmark l = record {
  done : IsFilledTo l.table.0 l.rule l.schema l.place l.fn.trees.tables l.trees.tables;
  catalog : l.trees.catalog ≡ l.fn.trees.catalog;
}

abbrev pub decreases-loop-bookmark : goal.decreases-loop-bookmark
decreases-loop-bookmark l = nodes_left l.place (table_nodes l.fn.trees.tables l.table.0)
