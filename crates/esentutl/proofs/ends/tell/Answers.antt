use Rattle.std.proofs.Common.{ℕ, List, sym, ap, subst, ◌∙◌}
use Rattle.esentutl.specs.Reading.{line_of_fault}
use Rattle.esentutl.specs.TopCall.{Says}
use Rattle.esentutl.proofs.ends.tell.Goals as goal

pub returns-in-Source-clause-line : goal.returns-in-Source-clause-line
returns-in-Source-clause-line g c =
    subst (λ (line : List ℕ). Says (g.K.Sink.taken c.args.out.now) (g.K.Sink.taken c.say_only.new.out) (g.K.Sink.faults c.args.out.now) (g.K.Sink.faults c.say_only.new.out) line)
    (c.make_last_line.ensures ∙ sym (ap line_of_fault c.in-Source.is)) c.say_only.ensures

pub returns-in-TooLong-clause-line : goal.returns-in-TooLong-clause-line
returns-in-TooLong-clause-line g c =
    subst (λ (line : List ℕ). Says (g.K.Sink.taken c.args.out.now) (g.K.Sink.taken c.say_only-in-TooLong.new.out) (g.K.Sink.faults c.args.out.now) (g.K.Sink.faults c.say_only-in-TooLong.new.out) line)
    (c.make_last_line-in-TooLong.ensures ∙ sym (ap line_of_fault c.in-TooLong.is)) c.say_only-in-TooLong.ensures

pub returns-in-BadLine-clause-line : goal.returns-in-BadLine-clause-line
returns-in-BadLine-clause-line g c =
    subst (λ (line : List ℕ). Says (g.K.Sink.taken c.args.out.now) (g.K.Sink.taken c.say_only-in-BadLine.new.out) (g.K.Sink.faults c.args.out.now) (g.K.Sink.faults c.say_only-in-BadLine.new.out) line)
    (c.make_bad_line.ensures ∙ sym (ap line_of_fault c.in-BadLine.is)) c.say_only-in-BadLine.ensures
