use Rattle.own_images.proofs.ConsistentOwn.{consistent, holds_settled}
use Rattle.own_images.proofs.laws.an_engine_image_is_consistent.Goals as goal

pub returns-clause-consistent : goal.returns-clause-consistent
returns-clause-consistent c sessions store own fits =
    consistent (record { fault = c.no_fault_is_told_of_a_tree.ensures.fault; depth = c.no_fault_is_told_of_a_tree.ensures.depth }) (record { put = c.values_after_a_change.ensures.put; beside = c.values_after_a_change.ensures.beside })
    c.views_come_of_kept_changes.ensures.newest c.live_parts_are_read_back.ensures.again sessions store own fits

pub returns-clause-holds : goal.returns-clause-holds
returns-clause-holds c limit sessions store own fits =
    holds_settled (record { fault = c.no_fault_is_told_of_a_tree.ensures.fault; depth = c.no_fault_is_told_of_a_tree.ensures.depth }) c.live_parts_are_read_back.ensures.again limit sessions store own fits
