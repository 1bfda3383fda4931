use Rattle.own_images.proofs.LiveFits.{own_fits}
use Rattle.own_images.proofs.laws.the_live_part_of_an_engine_can_be_written.Goals as goal

pub returns : goal.returns
returns c sessions store own spelled = own_fits sessions store own spelled
