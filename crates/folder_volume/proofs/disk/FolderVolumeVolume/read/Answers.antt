use Rattle.folder_volume.specs.Handles.{IsNotOpen}
use Rattle.folder_volume.specs.Disk.{folder_of, handles_of}
use Rattle.folder_volume.proofs.Failures.{fails_on}
use Rattle.folder_volume.proofs.disk.FolderVolumeVolume.read.Goals as goal

pub returns-clause-failures : goal.returns-clause-failures
returns-clause-failures g c =
    fails_on (IsNotOpen c.args.file (handles_of c.args.self.now)) c.read_from-outcome.result c.counted.result
    (g.D.Folder.failures (folder_of c.args.self.now)) (g.D.Folder.failures c.read_from-outcome.new.folder)
    c.counted.ensures.value c.counted.ensures.failed c.read_from-outcome.ensures.failures
