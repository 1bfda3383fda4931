use Rattle.laws_images.proofs.OpenedLemmas.SumsInTurn.{held_in_turn}
use Rattle.laws_images.proofs.opened.a_settled_engine_is_in_turn.Goals as goal

pub returns : goal.returns
returns c engine state h stand = held_in_turn engine state h stand
