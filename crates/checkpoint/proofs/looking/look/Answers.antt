use Rattle.checkpoint.proofs.Quiet.{quiet_more}
use Rattle.checkpoint.proofs.looking.look.Goals as goal

pub returns-in_err-b-clause-quiet : goal.returns-in_err-b-clause-quiet
returns-in_err-b-clause-quiet g c =
    quiet_more g.V.Volume.moment g.V.Volume.left_at c.args.volume.now c.read_front.new.volume c.read_front-2.new.volume c.read_front.ensures.quiet c.read_front-2.ensures.quiet

pub returns-clause-quiet : goal.returns-clause-quiet
returns-clause-quiet g c =
    quiet_more g.V.Volume.moment g.V.Volume.left_at c.args.volume.now c.read_front.new.volume c.read_front-2.new.volume c.read_front.ensures.quiet c.read_front-2.ensures.quiet
