use Rattle.catalog_grammar.proofs.StepFits.{index_fits_in}
use Rattle.catalog_grammar.proofs.StepNodes.{index_made}
use Rattle.catalog_grammar.proofs.steps.create_index_adds_a_node.Goals as goal

pub returns-clause-absent : goal.returns-clause-absent
returns-clause-absent c = λ roots catalog table rule t found through. (index_made roots catalog table rule t found through).absent

pub returns-clause-after : goal.returns-clause-after
returns-clause-after c = λ roots catalog table rule t found through. (index_made roots catalog table rule t found through).nodes

pub returns-clause-fits : goal.returns-clause-fits
returns-clause-fits c = index_fits_in
