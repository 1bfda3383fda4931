use Rattle.std.proofs.Common.{ℕ, List, subst}
use Rattle.esentutl.specs.TopCall.{Says}
use Rattle.esentutl.proofs.ends.refuse.Goals as goal

pub returns-clause-line : goal.returns-clause-line
returns-clause-line g c =
    subst (λ (line : List ℕ). Says (g.K.Sink.taken c.args.out.now) (g.K.Sink.taken c.say_only.new.out) (g.K.Sink.faults c.args.out.now) (g.K.Sink.faults c.say_only.new.out) line)
    c.make_last_line.ensures c.say_only.ensures
