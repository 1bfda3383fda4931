use Rattle.laws_images.proofs.SettledLemmas.HeldStates.{settled_holds}
use Rattle.laws_images.proofs.settled.a_settled_engine_holds_the_settled_state.Goals as goal

pub returns : goal.returns
returns c engine state h = settled_holds engine state h
