use Rattle.own_images.proofs.ChangesSpelled.{own_told}
use Rattle.own_images.proofs.laws.the_held_changes_of_an_engine_can_be_told.Goals as goal

pub returns : goal.returns
returns c sessions store own = own_told (record { fault = c.no_fault_is_told_of_a_tree.ensures.fault; depth = c.no_fault_is_told_of_a_tree.ensures.depth }) c.views_come_of_kept_changes.ensures.newest sessions store own
