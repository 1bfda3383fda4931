use Rattle.laws_engine.proofs.AgreeingLemmas.AllSessions.{all_in_step}
use Rattle.laws_engine.proofs.agreeing.others.an_answer_keeps_all_sessions_in_step.Goals as goal

pub returns : goal.returns
returns c = all_in_step
