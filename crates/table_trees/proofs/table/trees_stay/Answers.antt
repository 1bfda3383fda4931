use Rattle.table_trees.proofs.TableChanges.{indexes_stay, long_values_stay, nodes_stay}
use Rattle.table_trees.proofs.table.trees_stay.Goals as goal

pub returns-clause-nodes : goal.returns-clause-nodes
returns-clause-nodes c = nodes_stay c.other_tree_stays.ensures

pub returns-clause-long_values : goal.returns-clause-long_values
returns-clause-long_values c = long_values_stay c.values_are_shown.ensures c.other_long_values_stay.ensures

pub returns-clause-indexes : goal.returns-clause-indexes
returns-clause-indexes c = indexes_stay c.other_index_entries_stay.ensures
