use Rattle.laws_engine.proofs.EngineLemmas.AfterEntries.{entries_hold}
use Rattle.laws_engine.proofs.HeldLemmas.HeldIndexes.{held_read_no_sums}
use Rattle.recovered_states.proofs.Alike.{AlikeLaws, closed_held, shows_held}
use Rattle.recovered_states.proofs.Reaching.{opening_recovers, recovered_closed, recovered_held}
use Rattle.recovered_states.proofs.laws.what_files_recover_to_is_closed.Goals as goal

pub returns : goal.returns
returns c =
    let alike = c.alike_states_stay_alike.ensures in
    let laws : AlikeLaws = record { plain = held_read_no_sums; many = entries_hold; takes = alike.takes; stays = alike.stays } in
    let held = shows_held c.an_empty_engine_holds_the_empty_state.ensures.holds in
    record {
      closed = recovered_closed;
      held = recovered_held laws held alike.closes (closed_held c.a_closed_state_is_held_by_its_tables.ensures.holds);
      opening = opening_recovers;
    }
