use Rattle.laws_engine.proofs.AgreeingLemmas.OwnSessions.{not_begun, session_begins, session_ends}
use Rattle.laws_engine.proofs.agreeing.sessions.a_session_begins_and_ends_in_step.Goals as goal

pub returns-clause-before : goal.returns-clause-before
returns-clause-before c = not_begun

pub returns-clause-begin : goal.returns-clause-begin
returns-clause-begin c = session_begins

pub returns-clause-end : goal.returns-clause-end
returns-clause-end c = session_ends
