use Rattle.own_images.proofs.SessionsSound.{own_sessions}
use Rattle.own_images.proofs.laws.the_sessions_of_an_engine_are_sound.Goals as goal

pub returns : goal.returns
returns c sessions store own = own_sessions sessions store own
