use Rattle.std.proofs.Common.{inl, inr}
use Rattle.log_ring.specs.Gates.{begun}
use Rattle.log_ring.specs.Appends.{BeginningLeaves, StoringLeaves, AppendingLeaves}
use Rattle.log_ring.proofs.Steps.{log_weaker, log_goes_on}
use Rattle.log_ring.proofs.ring.append_at.Goals as goal

pub returns-in-Ok-clause-ok : goal.returns-in-Ok-clause-ok
returns-in-Ok-clause-ok g c tells log is = c.store.ensures.ok tells (begun c.args.place log) (c.in-Ok.ensures.ok tells log is)

pub returns-in-Ok-clause-any_moment : goal.returns-in-Ok-clause-any_moment
returns-in-Ok-clause-any_moment g c tells log is =
    let after = c.in-Ok.ensures.ok tells log is in
    log_goes_on g.V.Volume.seen g.V.Volume.moment g.V.Volume.left_at c.args.volume.now c.begin_at.new.volume c.store.new.volume
    (AppendingLeaves c.args.place c.args.payload.now log) (λ from to. StoringLeaves c.args.place c.args.payload.now (begun c.args.place log) to) (begun c.args.place log)
    (log_weaker g.V.Volume.seen g.V.Volume.moment g.V.Volume.left_at c.args.volume.now c.begin_at.new.volume (λ from to. BeginningLeaves c.args.place log to)
    (λ from to. AppendingLeaves c.args.place c.args.payload.now log to) (c.begin_at.ensures.any_moment tells log is) (λ image to left one. inl one))
    after.left (c.store.ensures.any_moment tells (begun c.args.place log) after) (λ to one. inr one)

pub returns-in-Err-clause-any_moment : goal.returns-in-Err-clause-any_moment
returns-in-Err-clause-any_moment g c tells log is =
    log_weaker g.V.Volume.seen g.V.Volume.moment g.V.Volume.left_at c.args.volume.now c.begin_at.new.volume (λ from to. BeginningLeaves c.args.place log to)
    (λ from to. AppendingLeaves c.args.place c.args.payload.now log to) (c.begin_at.ensures.any_moment tells log is) (λ image to left one. inl one)
