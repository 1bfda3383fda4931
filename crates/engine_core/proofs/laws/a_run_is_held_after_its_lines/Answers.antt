use Rattle.session_local.specs.Calls.{answer}
use Rattle.session_local.specs.Run.{outcome_of}
use Rattle.laws_engine.specs.HoldsState.{inputs_of}
use Rattle.engine_core.specs.Runs.{locals_of}
use Rattle.engine_core.proofs.Runs.{cleaned-run, room_after, served-held}
use Rattle.engine_core.proofs.laws.a_run_is_held_after_its_lines.Goals as goal

pub returns-clause-served : goal.returns-clause-served
returns-clause-served c = λ limit engine run line held built.
    let local = locals_of run line.0 in
    let asked = inputs_of engine run.state line.0 local in
    served-held limit engine run line held.limit_is (record {
      holds = c.an_answer_is_held_in_step.ensures.holds engine run.state held.holds line.0 local line.1 (held.in_step line.0) built;
      room =
          room_after c.ends_always_find_room.ensures.none_live engine run.state (answer asked line.1).step held.holds
          (c.an_answer_is_lawful_and_stays_in_step.ensures.lawful engine run.state held.holds line.0 local line.1 (held.in_step line.0) built)
          (c.an_answer_is_held_in_step.ensures.room engine run.state held.holds line.0 local line.1 (held.in_step line.0) built) held.room;
      in_step =
          c.an_answer_keeps_all_sessions_in_step.ensures asked (outcome_of engine.limit run line)
          (record { base = held.holds.base; dropped = held.holds.dropped; kept = held.holds.kept; is_history = held.holds.reached.history })
          (c.an_answer_is_lawful_and_stays_in_step.ensures.lawful engine run.state held.holds line.0 local line.1 (held.in_step line.0) built)
          (c.an_answer_makes_what_is_built.ensures.own engine run.state line.0 local line.1 built)
          (c.an_answer_is_lawful_and_stays_in_step.ensures.in_step engine run.state held.holds line.0 local line.1 (held.in_step line.0) built)
          (locals_of run) held.in_step;
    })

pub returns-clause-clean : goal.returns-clause-clean
returns-clause-clean c = cleaned-run c.a_clean_leaves_the_state.ensures
