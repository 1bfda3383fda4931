use Rattle.table_trees.proofs.TableChanges.{tables_stay}
use Rattle.table_trees.proofs.table.tables_stay.Goals as goal

pub returns-clause-tables : goal.returns-clause-tables
returns-clause-tables c = tables_stay (record { nodes = c.trees_stay.ensures.nodes; long_values = c.trees_stay.ensures.long_values; indexes = c.trees_stay.ensures.indexes })
