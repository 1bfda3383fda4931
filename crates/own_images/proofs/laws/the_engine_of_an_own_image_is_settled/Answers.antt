use Rattle.own_images.proofs.SettledShown.{own_engine, own_settled}
use Rattle.own_images.proofs.laws.the_engine_of_an_own_image_is_settled.Goals as goal

pub returns-clause-store : goal.returns-clause-store
returns-clause-store c limit sessions store own = own_settled (record { fault = c.no_fault_is_told_of_a_tree.ensures.fault; depth = c.no_fault_is_told_of_a_tree.ensures.depth }) limit sessions store own

pub returns-clause-engine : goal.returns-clause-engine
returns-clause-engine c limit sessions store own fits =
    own_engine (record { fault = c.no_fault_is_told_of_a_tree.ensures.fault; depth = c.no_fault_is_told_of_a_tree.ensures.depth }) c.live_parts_are_read_back.ensures.again limit sessions store own fits
