use Rattle.std.proofs.Common.{◌≡◌}
use Rattle.table_trees.specs.StoredTables.{table_nodes}
use Rattle.variant_trees.specs.LostColumns.{HasNodes, LosesValues}
use Rattle.stored_variants.proofs.NodeWalks.{nodes_left}
use Rattle.variant_trees.proofs.RewrittenNodes.{rewritten}
use Rattle.variant_trees.proofs.rewriting.remove_values.Given as goal

-- the rows up to the place are written anew
abbrev pub invariant-loop-bookmark : goal.invariant-loop-bookmark
invariant-loop-bookmark l = record {
  done : HasNodes l.table.0 (rewritten l.place l.column.0 (table_nodes l.fn.trees.tables l.table.0)) l.fn.trees.tables l.trees.tables;
  lost : LosesValues l.table.0 l.fn.trees.tables l.trees.tables;
  catalog : l.trees.catalog ≡ l.fn.trees.catalog;
}

abbrev pub decreases-loop-bookmark : goal.decreases-loop-bookmark
decreases-loop-bookmark l = nodes_left l.place (table_nodes l.fn.trees.tables l.table.0)
