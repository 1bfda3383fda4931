use Rattle.laws_engine.proofs.AgreeingLemmas.ChangeCalls.{sums}
use Rattle.laws_engine.proofs.agreeing.changes.sums_keep_a_session_in_step.Goals as goal

pub returns : goal.returns
returns c = sums
