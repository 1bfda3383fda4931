use Rattle.own_images.proofs.OwnWhole.{own_whole_values}
use Rattle.own_images.proofs.laws.the_long_values_of_a_store_are_whole.Goals as goal

pub returns : goal.returns
returns c store own =
    own_whole_values (record { fault = c.no_fault_is_told_of_a_tree.ensures.fault; depth = c.no_fault_is_told_of_a_tree.ensures.depth })
    (record { put = c.values_after_a_change.ensures.put; beside = c.values_after_a_change.ensures.beside }) store own
