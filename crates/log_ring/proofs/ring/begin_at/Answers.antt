use Rattle.std.proofs.Common.{◌≡◌, inr, ℕ, ◌+◌, true, sym, ◌∙◌, ap, subst}
use Rattle.std.proofs.lemmas.Result.{on_ok_weaker}
use Rattle.log_ring.specs.Gates.{barred, closed, begun, ReadyingLeaves}
use Rattle.log_ring.specs.Appends.{BeginningLeaves}
use Rattle.log_ring.specs.Writes.{LogIs}
use Rattle.log_ring.proofs.Steps.{log_weaker}
use Rattle.log_ring.proofs.Appending.{begun_zero}
use Rattle.log_ring.proofs.ring.begin_at.Goals as goal

pub returns-then-place-eq0-clause-ok : goal.returns-then-place-eq0-clause-ok
returns-then-place-eq0-clause-ok g c tells log is =
    let same : closed true c.address_of.result (barred (c.args.place.generation + 1) log) ≡ begun c.args.place log =
    ap (λ (at : ℕ). closed true at (barred (c.args.place.generation + 1) log)) c.address_of.ensures.place ∙ sym (begun_zero c.args.place log c.if-place-eq0.true) in
    on_ok_weaker c.make_ready.result (subst (LogIs g.V.Volume.seen g.V.Volume.moment g.V.Volume.left_at c.make_ready.new.volume) same) (c.make_ready.ensures.ok tells log is)

pub returns-then-place-eq0-clause-any_moment : goal.returns-then-place-eq0-clause-any_moment
returns-then-place-eq0-clause-any_moment g c tells log is =
    log_weaker g.V.Volume.seen g.V.Volume.moment g.V.Volume.left_at c.args.volume.now c.make_ready.new.volume
    (λ from to. ReadyingLeaves (c.args.place.generation + 1) true c.address_of.result log to) (λ from to. BeginningLeaves c.args.place log to)
    (c.make_ready.ensures.any_moment tells log is)
    (λ image to left one. inr (c.if-place-eq0.true, subst (λ at. ReadyingLeaves (c.args.place.generation + 1) true at log to) c.address_of.ensures.place one))
