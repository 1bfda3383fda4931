use Rattle.laws_engine.proofs.HeldLemmas.HeldStates.{held_equivalent}
use Rattle.laws_engine.proofs.held.held.states_that_one_engine_holds_are_equivalent.Goals as goal

pub returns : goal.returns
returns c = held_equivalent
