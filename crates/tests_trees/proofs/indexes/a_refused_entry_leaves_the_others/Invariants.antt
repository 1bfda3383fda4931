use Rattle.std.proofs.Common.{◌≡◌, ◌+◌, length, slice_index}
use Rattle.std.specs.Prelude.{All}
use Rattle.index_tree.specs.IndexTrees.{IsIndexTree, entries_of}
use Rattle.tests_trees.proofs.indexes.a_refused_entry_leaves_the_others.Given as goal

abbrev pub invariant-loop-turn : goal.invariant-loop-turn
invariant-loop-turn g l = record {
  index : IsIndexTree l.space l.index;
  sized : All (λ entry. slice_index entry.0 0 + 1 ≡ length entry.0) (entries_of l.space l.index);
  marks : length l.marks ≡ 320;
}
