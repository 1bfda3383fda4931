use Rattle.own_images.proofs.ConsistentOwn.{covers, shows_alike, shows_settled}
use Rattle.own_images.proofs.laws.an_engine_image_shows_its_state.Goals as goal

pub returns-clause-covers : goal.returns-clause-covers
returns-clause-covers c sessions store own fits =
    covers (record { consistent = c.an_engine_image_is_consistent.ensures.consistent; holds = c.an_engine_image_is_consistent.ensures.holds; shown = c.an_engine_of_a_consistent_image_holds_its_state.ensures; same = c.states_that_one_engine_holds_are_equivalent.ensures; alike = c.alike_states_stay_alike.ensures.equivalent; settled_alike = c.alike_states_stay_alike.ensures.settled })
    sessions store own fits

pub returns-clause-equivalent : goal.returns-clause-equivalent
returns-clause-equivalent c sessions store own fits bytes =
    shows_settled (record { consistent = c.an_engine_image_is_consistent.ensures.consistent; holds = c.an_engine_image_is_consistent.ensures.holds; shown = c.an_engine_of_a_consistent_image_holds_its_state.ensures; same = c.states_that_one_engine_holds_are_equivalent.ensures; alike = c.alike_states_stay_alike.ensures.equivalent; settled_alike = c.alike_states_stay_alike.ensures.settled })
    sessions store own fits bytes

pub returns-clause-alike : goal.returns-clause-alike
returns-clause-alike c sessions store own fits bytes =
    shows_alike (record { consistent = c.an_engine_image_is_consistent.ensures.consistent; holds = c.an_engine_image_is_consistent.ensures.holds; shown = c.an_engine_of_a_consistent_image_holds_its_state.ensures; same = c.states_that_one_engine_holds_are_equivalent.ensures; alike = c.alike_states_stay_alike.ensures.equivalent; settled_alike = c.alike_states_stay_alike.ensures.settled })
    sessions store own fits bytes
