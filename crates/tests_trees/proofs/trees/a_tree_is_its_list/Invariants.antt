use Rattle.btree_inplace.specs.Trees.{IsTree}
use Rattle.tests_trees.proofs.trees.a_tree_is_its_list.Given as goal

abbrev pub invariant-loop-turn : goal.invariant-loop-turn
invariant-loop-turn g l = IsTree l.space l.tree

abbrev pub invariant-loop-number : goal.invariant-loop-number
invariant-loop-number g l = IsTree l.space l.tree
