use Rattle.std.proofs.Common.{refl}
use Rattle.table_trees.specs.StoredTables.{is_table, new_table}
use Rattle.table_trees.proofs.AfterChanges.{any-pushed, part-pushed}
use Rattle.table_trees.proofs.laws.tables_beside_a_new_one.Goals as goal

pub returns-clause-nodes : goal.returns-clause-nodes
returns-clause-nodes c tables table other = part-pushed (is_table other) (λ x. x.nodes) (new_table table) tables refl

pub returns-clause-indexes : goal.returns-clause-indexes
returns-clause-indexes c tables table other = part-pushed (is_table other) (λ x. x.indexes) (new_table table) tables refl

pub returns-clause-long_values : goal.returns-clause-long_values
returns-clause-long_values c tables table other = part-pushed (is_table other) (λ x. x.long_values) (new_table table) tables refl

pub returns-clause-there : goal.returns-clause-there
returns-clause-there c tables table other = any-pushed (is_table other) (new_table table) tables
