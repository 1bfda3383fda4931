use Rattle.jet_base.specs.Ids.{table_id}
use Rattle.catalog_grammar.proofs.StepNodes.{columns_go, indexes_go, table_goes, tables_left}
use Rattle.catalog_grammar.proofs.steps.delete_table_removes_its_nodes.Goals as goal

pub returns-clause-indexes : goal.returns-clause-indexes
returns-clause-indexes c = indexes_go

pub returns-clause-columns : goal.returns-clause-columns
returns-clause-columns c = columns_go

pub returns-clause-table : goal.returns-clause-table
returns-clause-table c = λ roots catalog t found fits. (table_goes roots catalog (table_id t.id) t found fits).there

pub returns-clause-after : goal.returns-clause-after
returns-clause-after c = λ roots catalog table t found fits. (table_goes roots catalog table t found fits).nodes

pub returns-clause-fits : goal.returns-clause-fits
returns-clause-fits c = tables_left
