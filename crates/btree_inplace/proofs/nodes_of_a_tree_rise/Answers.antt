-- The keys rise on each page, and each child's lie between the keys of its parent.
use Rattle.btree_inplace.proofs.Runs.{rising_below}
use Rattle.btree_inplace.proofs.nodes_of_a_tree_rise.Goals as goal

pub returns-clause-subtree : goal.returns-clause-subtree
returns-clause-subtree c = rising_below

pub returns-clause-tree : goal.returns-clause-tree
returns-clause-tree c frames tree is = rising_below tree.depth frames tree.root is.shape
