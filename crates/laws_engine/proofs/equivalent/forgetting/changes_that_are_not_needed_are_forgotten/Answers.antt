use Rattle.laws_engine.proofs.EquivalentLemmas.Unneeded.{needed_equivalent}
use Rattle.laws_engine.proofs.equivalent.forgetting.changes_that_are_not_needed_are_forgotten.Goals as goal

pub returns : goal.returns
returns c = needed_equivalent
