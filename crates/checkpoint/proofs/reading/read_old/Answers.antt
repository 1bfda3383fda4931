use Rattle.checkpoint.proofs.Quiet.{quiet_more}
use Rattle.checkpoint.proofs.reading.read_old.Goals as goal

pub returns-in-Ok-clause-quiet : goal.returns-in-Ok-clause-quiet
returns-in-Ok-clause-quiet g c =
    quiet_more g.V.Volume.moment g.V.Volume.left_at c.args.volume.now c.read_file.new.volume c.read_image.new.volume c.read_file.ensures.quiet c.read_image.ensures.quiet
