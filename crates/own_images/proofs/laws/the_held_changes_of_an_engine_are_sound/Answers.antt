use Rattle.own_images.proofs.ChangesSound.{own_changes_sound}
use Rattle.own_images.proofs.laws.the_held_changes_of_an_engine_are_sound.Goals as goal

pub returns : goal.returns
returns c sessions store own = own_changes_sound (record { fault = c.no_fault_is_told_of_a_tree.ensures.fault; depth = c.no_fault_is_told_of_a_tree.ensures.depth }) sessions store own
