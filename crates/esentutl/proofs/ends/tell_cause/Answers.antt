use Rattle.std.proofs.Common.{ℕ, List, sym, ap, subst}
use Rattle.esentutl.specs.TopCall.{Says, line_of_cause}
use Rattle.esentutl.proofs.ends.tell_cause.Goals as goal

pub returns-in-CheckpointCorrupt-clause-line : goal.returns-in-CheckpointCorrupt-clause-line
returns-in-CheckpointCorrupt-clause-line g c =
    subst (λ (line : List ℕ). Says (g.K.Sink.taken c.args.out.now) (g.K.Sink.taken c.refuse.new.out) (g.K.Sink.faults c.args.out.now) (g.K.Sink.faults c.refuse.new.out) line)
    (sym (ap line_of_cause c.in-CheckpointCorrupt.is)) c.refuse.ensures.line

pub returns-in-LogSequenceEnd-clause-line : goal.returns-in-LogSequenceEnd-clause-line
returns-in-LogSequenceEnd-clause-line g c =
    subst (λ (line : List ℕ). Says (g.K.Sink.taken c.args.out.now) (g.K.Sink.taken c.refuse-in-LogSequenceEnd.new.out) (g.K.Sink.faults c.args.out.now) (g.K.Sink.faults c.refuse-in-LogSequenceEnd.new.out) line)
    (sym (ap line_of_cause c.in-LogSequenceEnd.is)) c.refuse-in-LogSequenceEnd.ensures.line

pub returns-in-ReadVerifyFailure-clause-line : goal.returns-in-ReadVerifyFailure-clause-line
returns-in-ReadVerifyFailure-clause-line g c =
    subst (λ (line : List ℕ). Says (g.K.Sink.taken c.args.out.now) (g.K.Sink.taken c.refuse-in-ReadVerifyFailure.new.out) (g.K.Sink.faults c.args.out.now) (g.K.Sink.faults c.refuse-in-ReadVerifyFailure.new.out) line)
    (sym (ap line_of_cause c.in-ReadVerifyFailure.is)) c.refuse-in-ReadVerifyFailure.ensures.line

pub returns-in-DatabaseCorrupted-clause-line : goal.returns-in-DatabaseCorrupted-clause-line
returns-in-DatabaseCorrupted-clause-line g c =
    subst (λ (line : List ℕ). Says (g.K.Sink.taken c.args.out.now) (g.K.Sink.taken c.refuse-in-DatabaseCorrupted.new.out) (g.K.Sink.faults c.args.out.now) (g.K.Sink.faults c.refuse-in-DatabaseCorrupted.new.out) line)
    (sym (ap line_of_cause c.in-DatabaseCorrupted.is)) c.refuse-in-DatabaseCorrupted.ensures.line

pub returns-in-LogFileCorrupt-clause-line : goal.returns-in-LogFileCorrupt-clause-line
returns-in-LogFileCorrupt-clause-line g c =
    subst (λ (line : List ℕ). Says (g.K.Sink.taken c.args.out.now) (g.K.Sink.taken c.refuse-in-LogFileCorrupt.new.out) (g.K.Sink.faults c.args.out.now) (g.K.Sink.faults c.refuse-in-LogFileCorrupt.new.out) line)
    (sym (ap line_of_cause c.in-LogFileCorrupt.is)) c.refuse-in-LogFileCorrupt.ensures.line
