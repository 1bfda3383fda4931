use Rattle.jet_catalog.proofs.NextNumbers.{has_next_numbers-asked}
use Rattle.jet_catalog.proofs.laws.steps_of_calls_have_next_numbers.Goals as goal

pub returns : goal.returns
returns c = has_next_numbers-asked
