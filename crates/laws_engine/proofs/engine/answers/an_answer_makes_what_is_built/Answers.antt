use Rattle.laws_engine.specs.HoldsState.{inputs_of}
use Rattle.laws_engine.proofs.LawfulLemmas.TypedAnswers.{answer_typed}
use Rattle.laws_engine.proofs.EngineLemmas.Replies.{answer_built, answer_own, built_amount}
use Rattle.laws_engine.proofs.engine.answers.an_answer_makes_what_is_built.Goals as goal

pub returns : goal.returns
returns c = record {
  built = λ engine state session local request e. answer_built (inputs_of engine state session local) request e;
  own = λ engine state session local request e. answer_own (inputs_of engine state session local) request e;
  typed = λ engine state session local request step e. answer_typed (inputs_of engine state session local) request (built_amount request e) step.updates;
}
