use Rattle.std.proofs.Common.{◌≡◌}
use Rattle.variant_trees.proofs.NewEntries.{HasSome}
use Rattle.variant_trees.proofs.new_entries.put_entries.Given as goal

abbrev pub invariant-loop-key : goal.invariant-loop-key
invariant-loop-key l = record {
  done : HasSome l.table.0 l.index.0 l.keys l.bookmark l.key-index l.fn.trees.tables l.trees.tables;
  catalog : l.trees.catalog ≡ l.fn.trees.catalog;
}
