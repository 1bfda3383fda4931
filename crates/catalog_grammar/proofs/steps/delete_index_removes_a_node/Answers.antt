use Rattle.catalog_grammar.proofs.StepNodes.{index_deleted}
use Rattle.catalog_grammar.proofs.steps.delete_index_removes_a_node.Goals as goal

pub returns-clause-there : goal.returns-clause-there
returns-clause-there c = λ roots catalog table index t found has fits. (index_deleted roots catalog table index t found has fits).there

pub returns-clause-after : goal.returns-clause-after
returns-clause-after c = λ roots catalog table index t found has fits. (index_deleted roots catalog table index t found has fits).nodes

pub returns-clause-fits : goal.returns-clause-fits
returns-clause-fits c = λ roots catalog table index t found has fits. (index_deleted roots catalog table index t found has fits).fits
