use Rattle.laws_versions.proofs.IndexLemmas.KeysRise.{keys_rise}
use Rattle.laws_versions.proofs.KeyLemmas.OneEntry.{one_entry}
use Rattle.laws_engine.proofs.LawfulLemmas.ChangeSteps.{locks}
use Rattle.laws_engine.proofs.lawful.changes.the_step_of_a_lock_is_lawful.Goals as goal

pub returns : goal.returns
returns c = locks one_entry keys_rise
