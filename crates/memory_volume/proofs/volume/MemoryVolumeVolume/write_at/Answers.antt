use Rattle.std.proofs.Common.{length}
use Rattle.memory_volume.specs.declared.volume.MemoryVolume.{MemoryVolume}
use Rattle.memory_volume.proofs.Moments.{follows, written_or_not}
use Rattle.memory_volume.proofs.volume.MemoryVolumeVolume.write_at.Goals as goal

pub returns-in-Ok-clause-crash : goal.returns-in-Ok-clause-crash
returns-in-Ok-clause-crash c =
    let new : MemoryVolume = record { contents = c.write.new.self; past = c.then-self.result; faults = c.args.self.now.faults } in
    follows c.args.self.now new c.args.file c.args.at (length c.args.piece.now)
    (written_or_not c.write.result c.args.file c.args.at c.args.piece.now c.args.self.now.contents c.write.new.self c.write.ensures.written c.write.ensures.same)

pub returns-in-Err-clause-crash : goal.returns-in-Err-clause-crash
returns-in-Err-clause-crash c =
    let new : MemoryVolume = record { contents = c.write.new.self; past = c.then-self.result; faults = c.rise.new.self } in
    follows c.args.self.now new c.args.file c.args.at (length c.args.piece.now)
    (written_or_not c.write.result c.args.file c.args.at c.args.piece.now c.args.self.now.contents c.write.new.self c.write.ensures.written c.write.ensures.same)
