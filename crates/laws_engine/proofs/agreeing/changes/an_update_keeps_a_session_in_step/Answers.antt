use Rattle.laws_versions.proofs.IndexLemmas.KeysRise.{keys_rise}
use Rattle.laws_versions.proofs.KeyLemmas.OneEntry.{one_entry}
use Rattle.laws_engine.proofs.AgreeingLemmas.ChangeCalls.{updates}
use Rattle.laws_engine.proofs.agreeing.changes.an_update_keeps_a_session_in_step.Goals as goal

pub returns : goal.returns
returns c = updates one_entry keys_rise
