use Rattle.btree_inplace.specs.Trees.{IsTree}
use Rattle.tests_trees.proofs.trees.pages_and_nodes_are_counted.Given as goal

abbrev pub invariant-loop-number : goal.invariant-loop-number
invariant-loop-number g l = IsTree l.space l.tree
