use Rattle.laws_engine.proofs.LawfulLemmas.SessionSteps.{table_closes}
use Rattle.laws_engine.proofs.lawful.cursors.the_step_of_a_close_is_lawful.Goals as goal

pub returns : goal.returns
returns c = table_closes
