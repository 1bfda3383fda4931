use Rattle.laws_engine.proofs.HeldLemmas.HeldIndexes.{held_read_no_sums}
use Rattle.laws_engine.proofs.held.held.indexes_of_held_states_read_no_sums.Goals as goal

pub returns : goal.returns
returns c = held_read_no_sums
