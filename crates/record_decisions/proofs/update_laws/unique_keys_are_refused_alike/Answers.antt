use Rattle.record_decisions.proofs.UpdateTold.{keys-told}
use Rattle.record_decisions.proofs.update_laws.unique_keys_are_refused_alike.Goals as goal

pub returns : goal.returns
returns c = keys-told c.unique_keys_are_asked_as_of_the_state.ensures
