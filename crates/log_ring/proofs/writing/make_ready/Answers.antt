use Rattle.std.proofs.Common.{inl, inr}
use Rattle.log_ring.specs.Gates.{barred, BarringLeaves, ClosingLeaves, ReadyingLeaves}
use Rattle.log_ring.proofs.Steps.{log_goes_on, log_weaker}
use Rattle.log_ring.proofs.writing.make_ready.Goals as goal

pub returns-in-Err-clause-any_moment : goal.returns-in-Err-clause-any_moment
returns-in-Err-clause-any_moment g c tells log is =
    log_weaker g.V.Volume.seen g.V.Volume.moment g.V.Volume.left_at c.args.volume.now c.bar.new.volume (λ from to. BarringLeaves c.args.generation log to)
    (λ from to. ReadyingLeaves c.args.generation c.args.missing_counts c.args.at log to) (c.bar.ensures.any_moment tells log is) (λ image to left one. inl one)

pub returns-in-Ok-clause-ok : goal.returns-in-Ok-clause-ok
returns-in-Ok-clause-ok g c tells log is = c.clear_gate.ensures.ok tells (barred c.args.generation log) (c.in-Ok.ensures.ok tells log is)

pub returns-in-Ok-clause-any_moment : goal.returns-in-Ok-clause-any_moment
returns-in-Ok-clause-any_moment g c tells log is =
    let after = c.in-Ok.ensures.ok tells log is in
    log_goes_on g.V.Volume.seen g.V.Volume.moment g.V.Volume.left_at c.args.volume.now c.bar.new.volume c.clear_gate.new.volume
    (ReadyingLeaves c.args.generation c.args.missing_counts c.args.at log) (λ from to. ClosingLeaves c.args.missing_counts c.args.at (barred c.args.generation log) to) (barred c.args.generation log)
    (log_weaker g.V.Volume.seen g.V.Volume.moment g.V.Volume.left_at c.args.volume.now c.bar.new.volume (λ from to. BarringLeaves c.args.generation log to)
    (λ from to. ReadyingLeaves c.args.generation c.args.missing_counts c.args.at log to) (c.bar.ensures.any_moment tells log is) (λ image to left one. inl one))
    after.left (c.clear_gate.ensures.any_moment tells (barred c.args.generation log) after) (λ to one. inr one)
