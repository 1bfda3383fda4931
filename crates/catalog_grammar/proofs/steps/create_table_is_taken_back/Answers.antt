use Rattle.catalog_grammar.proofs.TakenBack.{table_taken_back}
use Rattle.catalog_grammar.proofs.steps.create_table_is_taken_back.Goals as goal

pub returns-clause-there : goal.returns-clause-there
returns-clause-there c = λ roots catalog table name through. (table_taken_back roots catalog table name through).there

pub returns-clause-same_length : goal.returns-clause-same_length
returns-clause-same_length c = λ roots catalog table name through. (table_taken_back roots catalog table name through).same_length

pub returns-clause-after : goal.returns-clause-after
returns-clause-after c = λ roots catalog table name through. (table_taken_back roots catalog table name through).nodes
