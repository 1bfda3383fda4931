use Rattle.index_derive.specs.Steps.{entries_of_step}
use Rattle.session_local.specs.Calls.{answer}
use Rattle.laws_versions.proofs.KeyLemmas.OneEntry.{one_entry}
use Rattle.laws_engine.proofs.LawfulLemmas.ReachedStates.{reaches_all}
use Rattle.laws_engine.proofs.LawfulLemmas.TypedAnswers.{answer_typed}
use Rattle.laws_engine.proofs.lawful.typed.lawful_answers_reach_the_next_state.Goals as goal

pub returns : goal.returns
returns c = λ asked request reached lawful fits rise.
    reaches_all one_entry asked.state (entries_of_step (answer asked request).step) reached lawful (answer_typed asked request fits rise)
