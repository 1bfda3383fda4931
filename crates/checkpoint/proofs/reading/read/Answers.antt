use Rattle.checkpoint.proofs.Quiet.{quiet_more}
use Rattle.checkpoint.proofs.reading.read.Goals as goal

pub returns-in-Ok-Some-clause-quiet : goal.returns-in-Ok-Some-clause-quiet
returns-in-Ok-Some-clause-quiet g c =
    quiet_more g.V.Volume.moment g.V.Volume.left_at c.args.volume.now c.look.new.volume c.read_old.new.volume c.look.ensures.quiet c.read_old.ensures.quiet

pub returns-in-Ok-None-clause-quiet : goal.returns-in-Ok-None-clause-quiet
returns-in-Ok-None-clause-quiet g c =
    quiet_more g.V.Volume.moment g.V.Volume.left_at c.args.volume.now c.look.new.volume c.read_new.new.volume c.look.ensures.quiet c.read_new.ensures.quiet
