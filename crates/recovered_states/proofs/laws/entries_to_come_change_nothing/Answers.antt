use Rattle.recovered_states.proofs.Reaching.{covers_more, recovers_lower, recovers_more}
use Rattle.recovered_states.proofs.laws.entries_to_come_change_nothing.Goals as goal

pub returns : goal.returns
returns c = record { lower = recovers_lower; more = recovers_more; covers = covers_more }
