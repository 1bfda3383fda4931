use Rattle.laws_engine.proofs.LawfulLemmas.SessionSteps.{table_opens}
use Rattle.laws_engine.proofs.lawful.cursors.the_step_of_an_open_is_lawful.Goals as goal

pub returns : goal.returns
returns c = table_opens
