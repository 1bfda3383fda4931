use Rattle.table_trees.proofs.RootsOfTables.{one_depth}
use Rattle.table_trees.proofs.laws.a_root_has_one_tree.Goals as goal

pub returns : goal.returns
returns c frames root depth other one two = one_depth depth other frames root one two
