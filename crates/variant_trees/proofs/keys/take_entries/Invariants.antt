use Rattle.std.proofs.Common.{◌≡◌, take}
use Rattle.variant_trees.specs.GoneKeys.{ChangesEntries, OthersKeep}
use Rattle.variant_trees.proofs.LostKeys.{LosesAll}
use Rattle.table_trees.specs.StoredTables.{index_entries}
use Rattle.variant_trees.proofs.keys.take_entries.Given as goal

abbrev pub invariant-loop-key : goal.invariant-loop-key
invariant-loop-key l = record {
  catalog : l.trees.catalog ≡ l.fn.trees.catalog;
  others : ChangesEntries l.table.0 l.fn.trees.tables l.trees.tables;
  indexes : OthersKeep l.table.0 l.index.0 l.fn.trees.tables l.trees.tables;
  entries : LosesAll (take l.key-index l.keys) l.bookmark (index_entries l.fn.trees.tables l.table.0 l.index.0) (index_entries l.trees.tables l.table.0 l.index.0);
}
