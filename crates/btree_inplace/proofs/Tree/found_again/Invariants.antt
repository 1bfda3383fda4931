use Rattle.std.proofs.Common.{◌-◌}
use Rattle.btree_inplace.specs.Shape.{IsSubtree, entries}
use Rattle.btree_inplace.specs.Trees.{nodes_of}
use Rattle.btree_inplace.proofs.Runs.{IsRun}
use Rattle.btree_inplace.proofs.Tree.found_again.Given as goal

abbrev pub invariant-loop-level : goal.invariant-loop-level
invariant-loop-level l = record {
  shape : IsSubtree (l.self.depth - l.level) l.space l.page;
  run : IsRun (entries (l.self.depth - l.level) l.space l.page) (nodes_of l.space l.self);
}
