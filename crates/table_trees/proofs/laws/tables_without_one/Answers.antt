use Rattle.std.proofs.Common.{◌==◌}
use Rattle.table_trees.specs.StoredTables.{is_table}
use Rattle.table_trees.proofs.AfterChanges.{any-without, named_as, not_other, other-without, own-without}
use Rattle.table_trees.proofs.laws.tables_without_one.Goals as goal

pub returns-clause-no_nodes : goal.returns-clause-no_nodes
returns-clause-no_nodes c tables table = own-without (is_table table) (λ x. x.nodes) tables

pub returns-clause-no_indexes : goal.returns-clause-no_indexes
returns-clause-no_indexes c tables table = own-without (is_table table) (λ x. x.indexes) tables

pub returns-clause-nodes : goal.returns-clause-nodes
returns-clause-nodes c tables table other n = other-without (is_table table) (is_table other) (λ x. x.nodes) tables (λ x t. not_other x.number table other n t)

pub returns-clause-indexes : goal.returns-clause-indexes
returns-clause-indexes c tables table other n = other-without (is_table table) (is_table other) (λ x. x.indexes) tables (λ x t. not_other x.number table other n t)

pub returns-clause-no_long_values : goal.returns-clause-no_long_values
returns-clause-no_long_values c tables table = own-without (is_table table) (λ x. x.long_values) tables

pub returns-clause-long_values : goal.returns-clause-long_values
returns-clause-long_values c tables table other n = other-without (is_table table) (is_table other) (λ x. x.long_values) tables (λ x t. not_other x.number table other n t)

pub returns-clause-there : goal.returns-clause-there
returns-clause-there c tables table other = any-without (is_table table) (is_table other) (other == table) tables (λ x t. named_as x.number table other t)
