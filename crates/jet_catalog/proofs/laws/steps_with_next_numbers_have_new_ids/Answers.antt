use Rattle.jet_catalog.proofs.NextNumbers.{new_from_next}
use Rattle.jet_catalog.proofs.laws.steps_with_next_numbers_have_new_ids.Goals as goal

pub returns : goal.returns
returns c = new_from_next
