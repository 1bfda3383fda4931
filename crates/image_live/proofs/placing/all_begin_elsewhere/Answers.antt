use Rattle.std.proofs.Common.{ap, sym, ◌∙◌}
use Rattle.image_findings.specs.LiveFindings.{begins_elsewhere}
use Rattle.version_cleanup.specs.LiveSessions.{LiveState}
use Rattle.image_live.proofs.AllOf.{fails, goes}
use Rattle.image_live.proofs.placing.all_begin_elsewhere.Goals as goal

pub returns-then-not-begins_elsewhere : goal.returns-then-not-begins_elsewhere
returns-then-not-begins_elsewhere c =
    fails (λ (s : LiveState). begins_elsewhere c.args.number s.transaction) c.args.sessions.now c.loop-place.place c.at.result.now c.at.ensures
    (ap (begins_elsewhere c.args.number) (sym c.transaction.ensures.value) ∙ sym c.begins_elsewhere.ensures ∙ c.if-not-begins_elsewhere.true) c.loop-place.invariant

pub loop-place-preserved : goal.loop-place-preserved
loop-place-preserved c =
    goes (λ (s : LiveState). begins_elsewhere c.args.number s.transaction) c.args.sessions.now c.loop-place.place c.at.result.now c.at.ensures
    (ap (begins_elsewhere c.args.number) (sym c.transaction.ensures.value) ∙ sym c.begins_elsewhere.ensures ∙ c.if-not-begins_elsewhere.false) c.loop-place.invariant
