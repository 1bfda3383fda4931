use Rattle.laws_images.proofs.OpenedLemmas.HeldStates.{held}
use Rattle.laws_images.proofs.opened.a_shown_state_is_held.Goals as goal

pub returns : goal.returns
returns c number greatest sessions store turn placed priced rise = held number greatest sessions store turn placed priced rise
