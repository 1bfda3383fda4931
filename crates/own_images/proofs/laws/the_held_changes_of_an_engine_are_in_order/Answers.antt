use Rattle.own_images.proofs.ChangesInOrder.{own_order}
use Rattle.own_images.proofs.laws.the_held_changes_of_an_engine_are_in_order.Goals as goal

pub returns : goal.returns
returns c sessions store own = own_order (record { fault = c.no_fault_is_told_of_a_tree.ensures.fault; depth = c.no_fault_is_told_of_a_tree.ensures.depth }) c.views_come_of_kept_changes.ensures.newest sessions store own
