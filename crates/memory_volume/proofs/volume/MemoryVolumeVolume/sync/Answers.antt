use Rattle.std.proofs.Common.{ap}
use Rattle.jet_volume.specs.Image.{file_bytes}
use Rattle.memory_volume.proofs.Moments.{settled}
use Rattle.memory_volume.proofs.volume.MemoryVolumeVolume.sync.Goals as goal

pub returns-clause-durable : goal.returns-clause-durable
returns-clause-durable c = λ image left. ap (file_bytes c.args._file) (settled c.args.self.now image left)
