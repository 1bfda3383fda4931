use Rattle.own_images.proofs.OwnEntries.{own_entries}
use Rattle.own_images.proofs.laws.the_entries_of_a_store_are_right.Goals as goal

pub returns : goal.returns
returns c store own = own_entries (record { fault = c.no_fault_is_told_of_a_tree.ensures.fault; depth = c.no_fault_is_told_of_a_tree.ensures.depth }) store own
