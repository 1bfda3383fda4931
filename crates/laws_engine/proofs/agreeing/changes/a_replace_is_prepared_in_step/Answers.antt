use Rattle.laws_engine.proofs.AgreeingLemmas.Replacing.{replaces}
use Rattle.laws_engine.proofs.agreeing.changes.a_replace_is_prepared_in_step.Goals as goal

pub returns : goal.returns
returns c = replaces
