use Rattle.engine_core.proofs.Ends.{entry_keeps}
use Rattle.engine_core.proofs.Steps.{step_keeps}
use Rattle.engine_core.proofs.logging.laws.what_is_begun_keeps_the_bytes_of_its_end.Goals as goal

pub returns : goal.returns
returns c = record {
  one = λ engine state made h e. entry_keeps engine state made h e;
  step = λ engine step may. step_keeps c.a_lawful_entry_makes_the_next_state.ensures.one c.a_clean_leaves_the_state.ensures engine may.state step may.holds may.lawful may.built may.typed;
}
