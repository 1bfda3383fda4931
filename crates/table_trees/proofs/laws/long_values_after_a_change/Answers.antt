use Rattle.std.proofs.Common.{refl, sym, ◌∙◌, true≢false}
use Rattle.table_trees.specs.StoredTables.{is_table, put_long_values}
use Rattle.table_trees.proofs.AfterChanges.{any-changed, not_other, own-changed, part-changed}
use Rattle.table_trees.proofs.laws.long_values_after_a_change.Goals as goal

pub returns-clause-named : goal.returns-clause-named
returns-clause-named c tables table values h = own-changed (is_table table) (put_long_values values) (λ x. x.long_values) values tables (λ x. refl) (λ x. refl) h

pub returns-clause-others : goal.returns-clause-others
returns-clause-others c tables table other values n =
    part-changed (is_table table) (is_table other) (put_long_values values) (λ x. x.long_values) tables (λ x. refl) (λ x t u. absurd (true≢false (sym t ∙ not_other x.number table other n u)))

pub returns-clause-nodes : goal.returns-clause-nodes
returns-clause-nodes c tables table other values = part-changed (is_table table) (is_table other) (put_long_values values) (λ x. x.nodes) tables (λ x. refl) (λ x t u. refl)

pub returns-clause-indexes : goal.returns-clause-indexes
returns-clause-indexes c tables table other values = part-changed (is_table table) (is_table other) (put_long_values values) (λ x. x.indexes) tables (λ x. refl) (λ x t u. refl)

pub returns-clause-there : goal.returns-clause-there
returns-clause-there c tables table other values = any-changed (is_table table) (is_table other) (put_long_values values) tables (λ x. refl)
