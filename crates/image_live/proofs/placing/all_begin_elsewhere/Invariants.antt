-- What is left of the sessions decides.
use Rattle.image_findings.specs.LiveFindings.{begins_elsewhere}
use Rattle.version_cleanup.specs.LiveSessions.{LiveState}
use Rattle.image_live.proofs.AllOf.{RestDecides}
use Rattle.image_live.proofs.placing.all_begin_elsewhere.Given as goal

abbrev pub invariant-loop-place : goal.invariant-loop-place
invariant-loop-place l = RestDecides (λ (s : LiveState). begins_elsewhere l.fn.number s.transaction) l.sessions l.place
