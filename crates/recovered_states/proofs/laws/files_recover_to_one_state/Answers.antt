use Rattle.laws_engine.proofs.EngineLemmas.AfterEntries.{entries_hold}
use Rattle.laws_engine.proofs.HeldLemmas.HeldIndexes.{held_read_no_sums}
use Rattle.recovered_states.proofs.Alike.{AlikeLaws, shown_alike, shows_held}
use Rattle.recovered_states.proofs.Once.{stand_once}
use Rattle.recovered_states.proofs.Reaching.{one_state}
use Rattle.recovered_states.proofs.laws.files_recover_to_one_state.Goals as goal

pub returns : goal.returns
returns c =
    let alike = c.alike_states_stay_alike.ensures in
    let laws : AlikeLaws = record { plain = held_read_no_sums; many = entries_hold; takes = alike.takes; stays = alike.stays } in
    let held = shows_held c.an_empty_engine_holds_the_empty_state.ensures.holds in
    λ files a b. one_state laws held alike.closes (shown_alike c.states_that_one_engine_holds_are_equivalent.ensures alike.equivalent) files (stand_once c.nodes_of_a_page_are_few.ensures c.scans_once.ensures.stream files) a b
