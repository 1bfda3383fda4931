use Rattle.own_images.proofs.RowsSound.{own_rows}
use Rattle.own_images.proofs.laws.the_rows_of_an_engine_are_sound.Goals as goal

pub returns : goal.returns
returns c sessions store own = own_rows (record { fault = c.no_fault_is_told_of_a_tree.ensures.fault; depth = c.no_fault_is_told_of_a_tree.ensures.depth }) c.views_come_of_kept_changes.ensures.newest sessions store own
