use Rattle.laws_engine.proofs.LawfulLemmas.ReachedStates.{begins, begins_empty}
use Rattle.laws_engine.proofs.lawful.reached.states_without_sessions_are_reached.Goals as goal

pub returns-clause-empty : goal.returns-clause-empty
returns-clause-empty c = begins_empty

pub returns-clause-tables : goal.returns-clause-tables
returns-clause-tables c = begins
