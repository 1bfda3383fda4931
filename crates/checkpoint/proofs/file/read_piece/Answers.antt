use Rattle.checkpoint.proofs.Quiet.{quiet_more}
use Rattle.checkpoint.proofs.file.read_piece.Goals as goal

pub returns-in-Ok-true-clause-quiet : goal.returns-in-Ok-true-clause-quiet
returns-in-Ok-true-clause-quiet g c =
    quiet_more g.V.Volume.moment g.V.Volume.left_at c.args.volume.now c.has_bytes.new.volume c.take_piece.new.volume c.has_bytes.ensures.quiet c.take_piece.ensures.quiet
