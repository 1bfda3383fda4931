use Rattle.version_cleanup.specs.NeededLaws.{needed-kept}
use Rattle.laws_engine.proofs.EngineLemmas.Cleans.{clean_holds}
use Rattle.laws_engine.proofs.engine.entries.a_clean_leaves_the_state.Goals as goal

pub returns : goal.returns
returns c = clean_holds needed-kept
