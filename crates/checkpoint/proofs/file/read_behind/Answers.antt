use Rattle.checkpoint.proofs.Quiet.{quiet_more}
use Rattle.checkpoint.proofs.file.read_behind.Goals as goal

pub returns-in-Ok-Some-clause-quiet : goal.returns-in-Ok-Some-clause-quiet
returns-in-Ok-Some-clause-quiet g c =
    quiet_more g.V.Volume.moment g.V.Volume.left_at c.args.volume.now c.read_slots.new.volume c.read_live.new.volume c.read_slots.ensures.quiet c.read_live.ensures.quiet
