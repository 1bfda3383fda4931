use Rattle.laws_engine.proofs.AgreeingLemmas.OtherEntries.{others_keep, others_keep_all}
use Rattle.laws_engine.proofs.agreeing.others.entries_of_others_keep_a_session_in_step.Goals as goal

pub returns-clause-one : goal.returns-clause-one
returns-clause-one c = others_keep

pub returns-clause-many : goal.returns-clause-many
returns-clause-many c = others_keep_all
