use Rattle.laws_engine.proofs.AgreeingLemmas.ChangeCalls.{deletes, locks}
use Rattle.laws_engine.proofs.agreeing.changes.locks_and_deletes_keep_a_session_in_step.Goals as goal

pub returns-clause-lock : goal.returns-clause-lock
returns-clause-lock c = locks

pub returns-clause-delete : goal.returns-clause-delete
returns-clause-delete c = deletes
