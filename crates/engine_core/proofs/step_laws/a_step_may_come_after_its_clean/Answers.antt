use Rattle.engine_core.proofs.Settled.{step_settled}
use Rattle.engine_core.proofs.Turns.{cleaned_lawful}
use Rattle.engine_core.proofs.step_laws.a_step_may_come_after_its_clean.Goals as goal

pub returns : goal.returns
returns c = record { lawful = cleaned_lawful c.a_clean_for_a_step_leaves_the_state.ensures.holds; settled = step_settled }
