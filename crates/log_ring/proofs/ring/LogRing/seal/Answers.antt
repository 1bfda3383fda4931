use Rattle.std.proofs.Common.{ℕ, ◌+◌, nat_lt, subst}
use Rattle.std.proofs.lemmas.Result.{on_ok_weaker}
use Rattle.log_ring.specs.Blocks.{Scans}
use Rattle.log_ring.specs.Gates.{barred, closed, sealed, ReadyingLeaves}
use Rattle.log_ring.specs.Writes.{LogIs}
use Rattle.log_ring.proofs.Steps.{log_weaker}
use Rattle.log_ring.proofs.Appending.{sealing_scans, sealed_ready}
use Rattle.log_ring.proofs.ring.LogRing.seal.Goals as goal

pub returns-clause-sealed : goal.returns-clause-sealed
returns-clause-sealed g c tells log is =
    on_ok_weaker c.make_ready.result
    (subst (λ (at : ℕ). LogIs g.V.Volume.seen g.V.Volume.moment g.V.Volume.left_at c.make_ready.new.volume (closed (nat_lt 0 c.args.self.now.end.offset) at (barred (c.args.self.now.end.generation + 1) log)))
    c.address_of.ensures.place)
    (c.make_ready.ensures.ok tells log is)

pub returns-clause-ready : goal.returns-clause-ready
returns-clause-ready g c tells log from stream one standing is scans =
    on_ok_weaker c.make_ready.result
    (λ now. record {
      log = sealed c.args.self.now.end log;
      is = now;
      ready = sealed_ready from stream c.args.self.now.end one c.args.self.now.inside log scans;
      standing = standing;
    })
    (returns-clause-sealed g c tells log is)

pub returns-clause-any_moment : goal.returns-clause-any_moment
returns-clause-any_moment g c tells log from stream one is scans =
    log_weaker g.V.Volume.seen g.V.Volume.moment g.V.Volume.left_at c.args.volume.now c.make_ready.new.volume
    (λ before to. ReadyingLeaves (c.args.self.now.end.generation + 1) (nat_lt 0 c.args.self.now.end.offset) c.address_of.result log to) (λ before to. Scans to from stream c.args.self.now.end)
    (c.make_ready.ensures.any_moment tells log is)
    (λ image to left one_step.
    sealing_scans from stream c.args.self.now.end one c.args.self.now.inside (nat_lt 0 c.args.self.now.end.offset) log to scans
    (subst (λ (at : ℕ). ReadyingLeaves (c.args.self.now.end.generation + 1) (nat_lt 0 c.args.self.now.end.offset) at log to) c.address_of.ensures.place one_step))
