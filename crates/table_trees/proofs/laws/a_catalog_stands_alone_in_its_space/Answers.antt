use Rattle.table_trees.proofs.RootsOfTables.{stands_alone}
use Rattle.table_trees.proofs.laws.a_catalog_stands_alone_in_its_space.Goals as goal

pub returns : goal.returns
returns c frames catalog is new = stands_alone c.tree_pages_are_own.ensures frames catalog is new
