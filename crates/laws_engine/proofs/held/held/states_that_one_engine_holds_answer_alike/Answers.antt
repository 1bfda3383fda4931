use Rattle.laws_engine.proofs.HeldLemmas.EquivalentRuns.{held_answers, held_entries}
use Rattle.laws_engine.proofs.held.held.states_that_one_engine_holds_answer_alike.Goals as goal

pub returns-clause-answers : goal.returns-clause-answers
returns-clause-answers c = held_answers

pub returns-clause-entries : goal.returns-clause-entries
returns-clause-entries c = held_entries
