use Rattle.laws_engine.proofs.AgreeingLemmas.OwnSessions.{commits, rolls_back, transaction_begins}
use Rattle.laws_engine.proofs.agreeing.sessions.transactions_keep_a_session_in_step.Goals as goal

pub returns-clause-begin : goal.returns-clause-begin
returns-clause-begin c = transaction_begins

pub returns-clause-commit : goal.returns-clause-commit
returns-clause-commit c = commits

pub returns-clause-rollback : goal.returns-clause-rollback
returns-clause-rollback c = rolls_back
