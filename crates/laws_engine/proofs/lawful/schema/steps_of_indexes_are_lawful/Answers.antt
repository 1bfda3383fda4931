use Rattle.laws_engine.proofs.LawfulLemmas.SchemaCallSteps.{index_deleted, index_made}
use Rattle.laws_engine.proofs.lawful.schema.steps_of_indexes_are_lawful.Goals as goal

pub returns-clause-create : goal.returns-clause-create
returns-clause-create c = index_made

pub returns-clause-delete : goal.returns-clause-delete
returns-clause-delete c = index_deleted
