use Rattle.engine_core.proofs.Turns.{cleaned_holds, cleaned_in_step, cleaned_room}
use Rattle.engine_core.proofs.step_laws.a_clean_for_a_step_leaves_the_state.Goals as goal

pub returns : goal.returns
returns c = record { holds = cleaned_holds c.a_clean_leaves_the_state.ensures; in_step = cleaned_in_step c.a_clean_leaves_the_state.ensures; room = cleaned_room }
