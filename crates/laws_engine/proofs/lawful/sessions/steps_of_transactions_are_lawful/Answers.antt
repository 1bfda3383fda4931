use Rattle.laws_engine.proofs.LawfulLemmas.SessionSteps.{rolled_back, transaction_begins}
use Rattle.laws_engine.proofs.lawful.sessions.steps_of_transactions_are_lawful.Goals as goal

pub returns-clause-begin : goal.returns-clause-begin
returns-clause-begin c = transaction_begins

pub returns-clause-rollback : goal.returns-clause-rollback
returns-clause-rollback c = rolled_back
