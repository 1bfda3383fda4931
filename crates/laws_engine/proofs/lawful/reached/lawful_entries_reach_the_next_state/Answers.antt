use Rattle.laws_versions.proofs.KeyLemmas.OneEntry.{one_entry}
use Rattle.laws_engine.proofs.LawfulLemmas.ReachedStates.{reaches, reaches_all}
use Rattle.laws_engine.proofs.lawful.reached.lawful_entries_reach_the_next_state.Goals as goal

pub returns-clause-one : goal.returns-clause-one
returns-clause-one c = reaches one_entry

pub returns-clause-many : goal.returns-clause-many
returns-clause-many c = reaches_all one_entry
