use Rattle.laws_engine.proofs.EngineLemmas.InUse.{use_told}
use Rattle.laws_engine.proofs.engine.readings.uses_are_told.Goals as goal

pub returns : goal.returns
returns c = use_told
