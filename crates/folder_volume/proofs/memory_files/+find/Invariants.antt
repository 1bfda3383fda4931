use Rattle.std.proofs.Common.{length}
use Rattle.folder_volume.proofs.memory_files.+find.Given as goal

abbrev pub decreases-find : goal.decreases-find
decreases-find l = length l.files.now
