use Rattle.catalog_grammar.proofs.StepFits.{column_fits_in}
use Rattle.catalog_grammar.proofs.StepNodes.{column_made}
use Rattle.catalog_grammar.proofs.steps.add_column_adds_a_node.Goals as goal

pub returns-clause-absent : goal.returns-clause-absent
returns-clause-absent c = λ roots catalog table column t found through. (column_made roots catalog table column t found through).absent

pub returns-clause-same_length : goal.returns-clause-same_length
returns-clause-same_length c = λ roots catalog table column t found through. (column_made roots catalog table column t found through).same_length

pub returns-clause-after : goal.returns-clause-after
returns-clause-after c = λ roots catalog table column t found through. (column_made roots catalog table column t found through).nodes

pub returns-clause-fits : goal.returns-clause-fits
returns-clause-fits c = column_fits_in
