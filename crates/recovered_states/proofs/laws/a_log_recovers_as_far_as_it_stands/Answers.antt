use Rattle.laws_engine.proofs.EngineLemmas.AfterEntries.{entries_hold}
use Rattle.laws_engine.proofs.HeldLemmas.HeldIndexes.{held_read_no_sums}
use Rattle.recovered_states.proofs.Alike.{AlikeLaws, shows_held}
use Rattle.recovered_states.proofs.Reaching.{since_recovers, stands_recovers}
use Rattle.recovered_states.proofs.laws.a_log_recovers_as_far_as_it_stands.Goals as goal

pub returns : goal.returns
returns c =
    let alike = c.alike_states_stay_alike.ensures in
    let laws : AlikeLaws = record { plain = held_read_no_sums; many = entries_hold; takes = alike.takes; stays = alike.stays } in
    let held = shows_held c.an_empty_engine_holds_the_empty_state.ensures.holds in
    record { at = stands_recovers laws held alike.closes; since = since_recovers laws held alike.closes }
