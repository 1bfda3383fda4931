use Rattle.own_images.proofs.EngineFindings.{keys_left}
use Rattle.own_images.proofs.laws.what_is_found_of_an_engine_image.Goals as goal

pub returns : goal.returns
returns c sessions store own fits =
    keys_left (record { fault = c.no_fault_is_told_of_a_tree.ensures.fault; depth = c.no_fault_is_told_of_a_tree.ensures.depth }) (record { put = c.values_after_a_change.ensures.put; beside = c.values_after_a_change.ensures.beside })
    c.views_come_of_kept_changes.ensures.newest c.live_parts_are_read_back.ensures.again sessions store own fits
