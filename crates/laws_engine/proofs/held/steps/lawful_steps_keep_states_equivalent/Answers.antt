use Rattle.laws_engine.proofs.HeldLemmas.EquivalentRuns.{all_equivalent, all_lawful}
use Rattle.laws_engine.proofs.held.steps.lawful_steps_keep_states_equivalent.Goals as goal

pub returns-clause-lawful : goal.returns-clause-lawful
returns-clause-lawful c = all_lawful

pub returns-clause-equivalent : goal.returns-clause-equivalent
returns-clause-equivalent c = all_equivalent
