use Rattle.engine_core.proofs.Steps.{step_follows}
use Rattle.engine_core.proofs.logging.laws.ends_follow_their_steps.Goals as goal

pub returns : goal.returns
returns c = λ engine step may. step_follows c.a_lawful_entry_makes_the_next_state.ensures.one c.a_clean_leaves_the_state.ensures engine may.state step may.holds may.lawful may.built may.typed
