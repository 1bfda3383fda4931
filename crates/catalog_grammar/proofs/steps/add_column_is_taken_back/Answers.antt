use Rattle.catalog_grammar.proofs.TakenBack.{column_taken_back}
use Rattle.catalog_grammar.proofs.steps.add_column_is_taken_back.Goals as goal

pub returns-clause-there : goal.returns-clause-there
returns-clause-there c = λ roots catalog table column t found through. (column_taken_back roots catalog table column t found through).there

pub returns-clause-same_length : goal.returns-clause-same_length
returns-clause-same_length c = λ roots catalog table column t found through. (column_taken_back roots catalog table column t found through).same_length

pub returns-clause-after : goal.returns-clause-after
returns-clause-after c = λ roots catalog table column t found through. (column_taken_back roots catalog table column t found through).nodes
