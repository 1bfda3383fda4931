use Rattle.tool_dump.proofs.Telling.{sound_of_consistent}
use Rattle.tool_dump.proofs.pages.trees_of_a_consistent_image_are_sound.Goals as goal

pub returns : goal.returns
returns c = sound_of_consistent c.each_check_of_a_consistent_image_passes.ensures
