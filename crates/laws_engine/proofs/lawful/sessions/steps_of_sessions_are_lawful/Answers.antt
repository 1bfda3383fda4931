use Rattle.laws_engine.proofs.LawfulLemmas.SessionSteps.{session_begins, session_ends}
use Rattle.laws_engine.proofs.lawful.sessions.steps_of_sessions_are_lawful.Goals as goal

pub returns-clause-begin : goal.returns-clause-begin
returns-clause-begin c = session_begins

pub returns-clause-end : goal.returns-clause-end
returns-clause-end c = session_ends
