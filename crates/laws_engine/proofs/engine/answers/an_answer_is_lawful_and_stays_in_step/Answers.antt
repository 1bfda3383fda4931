use Rattle.laws_versions.proofs.IndexLemmas.KeysRise.{keys_rise}
use Rattle.laws_versions.proofs.KeyLemmas.OneEntry.{one_entry}
use Rattle.laws_engine.proofs.EngineLemmas.Answering.{answer_in_step, answer_lawful}
use Rattle.laws_engine.proofs.engine.answers.an_answer_is_lawful_and_stays_in_step.Goals as goal

pub returns-clause-lawful : goal.returns-clause-lawful
returns-clause-lawful c = answer_lawful one_entry keys_rise

pub returns-clause-in_step : goal.returns-clause-in_step
returns-clause-in_step c = answer_in_step one_entry keys_rise
