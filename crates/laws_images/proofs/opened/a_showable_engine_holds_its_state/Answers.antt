use Rattle.laws_images.proofs.OpenedLemmas.Showing.{showing}
use Rattle.laws_images.proofs.opened.a_showable_engine_holds_its_state.Goals as goal

pub returns : goal.returns
returns c engine s = showing engine s
