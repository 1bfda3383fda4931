use Rattle.laws_engine.proofs.EngineLemmas.AfterEntries.{entries_hold, entry_holds}
use Rattle.laws_engine.proofs.engine.entries.a_lawful_entry_makes_the_next_state.Goals as goal

pub returns-clause-one : goal.returns-clause-one
returns-clause-one c = entry_holds

pub returns-clause-many : goal.returns-clause-many
returns-clause-many c = entries_hold
