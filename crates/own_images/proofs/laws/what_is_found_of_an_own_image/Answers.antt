use Rattle.own_images.proofs.LeftFindings.{left_finding, live_left}
use Rattle.own_images.proofs.laws.what_is_found_of_an_own_image.Goals as goal

pub returns-clause-values : goal.returns-clause-values
returns-clause-values c store live own = left_finding (record { fault = c.no_fault_is_told_of_a_tree.ensures.fault; depth = c.no_fault_is_told_of_a_tree.ensures.depth }) store live own

pub returns-clause-live : goal.returns-clause-live
returns-clause-live c store live own held =
    live_left (record { fault = c.no_fault_is_told_of_a_tree.ensures.fault; depth = c.no_fault_is_told_of_a_tree.ensures.depth })
    (record { put = c.values_after_a_change.ensures.put; beside = c.values_after_a_change.ensures.beside }) store live own held
