use Rattle.table_trees.proofs.OtherRoots.{index_comes, index_goes, table_comes, table_goes}
use Rattle.table_trees.proofs.keeping.other_roots_are_not_shown.Goals as goal

pub returns-clause-table_comes : goal.returns-clause-table_comes
returns-clause-table_comes c = table_comes (record { nodes = c.other_roots_do_not_count.ensures.nodes; writable = c.other_roots_do_not_count.ensures.writable })

pub returns-clause-table_goes : goal.returns-clause-table_goes
returns-clause-table_goes c = table_goes (record { nodes = c.other_roots_do_not_count.ensures.nodes; writable = c.other_roots_do_not_count.ensures.writable })

pub returns-clause-index_comes : goal.returns-clause-index_comes
returns-clause-index_comes c = index_comes (record { nodes = c.other_roots_do_not_count.ensures.nodes; writable = c.other_roots_do_not_count.ensures.writable })

pub returns-clause-index_goes : goal.returns-clause-index_goes
returns-clause-index_goes c = index_goes (record { nodes = c.other_roots_do_not_count.ensures.nodes; writable = c.other_roots_do_not_count.ensures.writable })
