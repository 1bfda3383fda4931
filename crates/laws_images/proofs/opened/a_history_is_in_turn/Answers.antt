use Rattle.laws_images.proofs.OpenedLemmas.InTurns.{in_turn}
use Rattle.laws_images.proofs.opened.a_history_is_in_turn.Goals as goal

pub returns : goal.returns
returns c base items held tables m stand befores sums e = in_turn base items held tables m stand befores sums e
