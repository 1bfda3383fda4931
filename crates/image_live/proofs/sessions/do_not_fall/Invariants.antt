-- The last number before what is left of the tables decides.
use Rattle.std.proofs.Common.{◌≡◌, ◌∷◌, drop, map}
use Rattle.image_findings.specs.LiveFindings.{do_not_fall}
use Rattle.jet_base.specs.declared.ids.TableId.{TableId}
use Rattle.image_live.proofs.sessions.do_not_fall.Given as goal

abbrev pub invariant-loop-id : goal.invariant-loop-id
invariant-loop-id l = do_not_fall (l.last ∷ map (λ (id : TableId). id.0) (drop l.id-index l.ids)) ≡ do_not_fall (map (λ (id : TableId). id.0) l.ids)
