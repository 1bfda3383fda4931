use Rattle.laws_engine.proofs.LawfulLemmas.SchemaCallSteps.{table_deleted, table_made}
use Rattle.laws_engine.proofs.lawful.schema.steps_of_tables_are_lawful.Goals as goal

pub returns-clause-create : goal.returns-clause-create
returns-clause-create c = table_made

pub returns-clause-delete : goal.returns-clause-delete
returns-clause-delete c = table_deleted
