use Rattle.own_images.proofs.LiveSound.{own_live}
use Rattle.own_images.proofs.laws.the_live_part_of_an_engine_is_sound.Goals as goal

pub returns : goal.returns
returns c sessions store own = own_live (record { fault = c.no_fault_is_told_of_a_tree.ensures.fault; depth = c.no_fault_is_told_of_a_tree.ensures.depth }) c.views_come_of_kept_changes.ensures.newest sessions store own
