use Rattle.laws_engine.proofs.LawfulLemmas.TypedAnswers.{answer_typed}
use Rattle.laws_engine.proofs.lawful.typed.entries_of_answers_are_of_their_types.Goals as goal

pub returns : goal.returns
returns c = answer_typed
