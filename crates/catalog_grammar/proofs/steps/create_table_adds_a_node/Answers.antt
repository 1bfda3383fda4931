use Rattle.catalog_grammar.proofs.StepFits.{table_fits_in}
use Rattle.catalog_grammar.proofs.StepNodes.{table_made}
use Rattle.catalog_grammar.proofs.steps.create_table_adds_a_node.Goals as goal

pub returns-clause-absent : goal.returns-clause-absent
returns-clause-absent c = λ roots catalog table name through. (table_made roots catalog table name through).absent

pub returns-clause-same_length : goal.returns-clause-same_length
returns-clause-same_length c = λ roots catalog table name through. (table_made roots catalog table name through).same_length

pub returns-clause-after : goal.returns-clause-after
returns-clause-after c = λ roots catalog table name through. (table_made roots catalog table name through).nodes

pub returns-clause-fits : goal.returns-clause-fits
returns-clause-fits c = table_fits_in
