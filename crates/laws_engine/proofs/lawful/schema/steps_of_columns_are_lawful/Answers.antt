use Rattle.laws_engine.proofs.LawfulLemmas.SchemaCallSteps.{column_deleted, column_made}
use Rattle.laws_engine.proofs.lawful.schema.steps_of_columns_are_lawful.Goals as goal

pub returns-clause-create : goal.returns-clause-create
returns-clause-create c = column_made

pub returns-clause-delete : goal.returns-clause-delete
returns-clause-delete c = column_deleted
