use Rattle.esentutl.proofs.LookedAt.{says_refusal}
use Rattle.esentutl.proofs.ends.tell_corruption.Goals as goal

pub returns-in-Header : goal.returns-in-Header
returns-in-Header g c =
    says_refusal (g.K.Sink.taken c.args.out.now) (g.K.Sink.taken c.refuse.new.out) (g.K.Sink.faults c.args.out.now) (g.K.Sink.faults c.refuse.new.out) c.args.asked c.refuse.result c.args.found.now
    c.in-Header.is c.refuse.ensures.status c.refuse.ensures.line
