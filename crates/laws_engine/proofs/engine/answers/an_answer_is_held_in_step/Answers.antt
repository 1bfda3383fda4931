use Rattle.database_state.specs.Step.{state_after_all}
use Rattle.laws_versions.proofs.IndexLemmas.KeysRise.{keys_rise}
use Rattle.index_derive.specs.Steps.{entries_of_step}
use Rattle.laws_versions.proofs.KeyLemmas.OneEntry.{one_entry}
use Rattle.session_local.specs.Calls.{answer}
use Rattle.session_local.specs.Outcome.{CallInputs}
use Rattle.laws_engine.proofs.LawfulLemmas.TypedAnswers.{answer_typed}
use Rattle.laws_engine.specs.HoldsState.{inputs_of}
use Rattle.laws_engine.proofs.EngineLemmas.Answering.{all_held_after, answer_in_step, answer_lawful, held_after, room_after}
use Rattle.laws_engine.proofs.EngineLemmas.Replies.{answer_built, answer_own, built_amount}
use Rattle.laws_engine.proofs.engine.answers.an_answer_is_held_in_step.Goals as goal

pub returns-clause-holds : goal.returns-clause-holds
returns-clause-holds c = λ engine state h session local request step built.
    let asked : CallInputs = inputs_of engine state session local in
    held_after engine state (answer asked request).step h (answer_lawful one_entry keys_rise engine state h session local request step built)
    (answer_built asked request built) (answer_typed asked request (built_amount request built) step.updates)

pub returns-clause-in_step : goal.returns-clause-in_step
returns-clause-in_step c = λ engine session local request h built.
    let asked : CallInputs = inputs_of engine h.state session local in
    record {
      state = state_after_all h.state (entries_of_step (answer asked request).step);
      holds =
          held_after engine h.state (answer asked request).step h.holds (answer_lawful one_entry keys_rise engine h.state h.holds session local request h.in_step built)
          (answer_built asked request built) (answer_typed asked request (built_amount request built) h.in_step.updates);
      in_step = answer_in_step one_entry keys_rise engine h.state h.holds session local request h.in_step built;
    }

pub returns-clause-all : goal.returns-clause-all
returns-clause-all c = λ engine locals session request h built.
    let asked : CallInputs = inputs_of engine h.state session (locals session) in
    all_held_after engine locals session (answer asked request) h (answer_lawful one_entry keys_rise engine h.state h.holds session (locals session) request (h.in_step session) built)
    (answer_built asked request built) (answer_typed asked request (built_amount request built) (h.in_step session).updates) (answer_own asked request built)
    (answer_in_step one_entry keys_rise engine h.state h.holds session (locals session) request (h.in_step session) built)

pub returns-clause-room : goal.returns-clause-room
returns-clause-room c = λ engine state h session local request step built room.
    let asked : CallInputs = inputs_of engine state session local in
    room_after engine state (answer asked request).step h (answer_lawful one_entry keys_rise engine state h session local request step built)
    (answer_built asked request built) (answer_typed asked request (built_amount request built) step.updates) room
