use Rattle.recovered_states.proofs.Reaching.{covers_all, image_recovers}
use Rattle.recovered_states.proofs.laws.an_image_recovers_to_its_state.Goals as goal

pub returns : goal.returns
returns c = record { covers = covers_all; recovers = image_recovers }
