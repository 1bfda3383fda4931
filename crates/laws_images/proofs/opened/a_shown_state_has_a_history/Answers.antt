use Rattle.laws_images.proofs.OpenedLemmas.ShownHistories.{history}
use Rattle.laws_images.proofs.opened.a_shown_state_has_a_history.Goals as goal

pub returns : goal.returns
returns c number greatest sessions store turn placed = history number greatest sessions store turn placed
