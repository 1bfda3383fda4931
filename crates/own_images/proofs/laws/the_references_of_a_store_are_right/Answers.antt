use Rattle.own_images.proofs.Counted.{own_counts}
use Rattle.own_images.proofs.Missing.{own_missing}
use Rattle.own_images.proofs.laws.the_references_of_a_store_are_right.Goals as goal

pub returns-clause-counts : goal.returns-clause-counts
returns-clause-counts c store own = own_counts (record { fault = c.no_fault_is_told_of_a_tree.ensures.fault; depth = c.no_fault_is_told_of_a_tree.ensures.depth }) store own

pub returns-clause-named : goal.returns-clause-named
returns-clause-named c store own = own_missing (record { fault = c.no_fault_is_told_of_a_tree.ensures.fault; depth = c.no_fault_is_told_of_a_tree.ensures.depth }) store own
