use Rattle.own_images.proofs.KeysFound.{own_keys}
use Rattle.own_images.proofs.laws.the_unique_keys_of_an_engine_are_free.Goals as goal

pub returns : goal.returns
returns c sessions store own = own_keys (record { fault = c.no_fault_is_told_of_a_tree.ensures.fault; depth = c.no_fault_is_told_of_a_tree.ensures.depth }) sessions store own
