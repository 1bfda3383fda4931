use Rattle.std.proofs.Common.{refl, sym, ◌∙◌, true≢false}
use Rattle.table_trees.specs.StoredTables.{is_table, put_nodes}
use Rattle.table_trees.proofs.AfterChanges.{any-changed, not_other, own-changed, part-changed}
use Rattle.table_trees.proofs.laws.nodes_after_a_change.Goals as goal

pub returns-clause-named : goal.returns-clause-named
returns-clause-named c tables table nodes h = own-changed (is_table table) (put_nodes nodes) (λ x. x.nodes) nodes tables (λ x. refl) (λ x. refl) h

pub returns-clause-others : goal.returns-clause-others
returns-clause-others c tables table other nodes n =
    part-changed (is_table table) (is_table other) (put_nodes nodes) (λ x. x.nodes) tables (λ x. refl) (λ x t u. absurd (true≢false (sym t ∙ not_other x.number table other n u)))

pub returns-clause-indexes : goal.returns-clause-indexes
returns-clause-indexes c tables table other nodes = part-changed (is_table table) (is_table other) (put_nodes nodes) (λ x. x.indexes) tables (λ x. refl) (λ x t u. refl)

pub returns-clause-long_values : goal.returns-clause-long_values
returns-clause-long_values c tables table other nodes = part-changed (is_table table) (is_table other) (put_nodes nodes) (λ x. x.long_values) tables (λ x. refl) (λ x t u. refl)

pub returns-clause-there : goal.returns-clause-there
returns-clause-there c tables table other nodes = any-changed (is_table table) (is_table other) (put_nodes nodes) tables (λ x. refl)
