use Rattle.laws_engine.proofs.EngineLemmas.Cleans.{step_holds}
use Rattle.laws_engine.proofs.engine.entries.a_lawful_step_makes_the_next_state.Goals as goal

pub returns : goal.returns
returns c = step_holds
