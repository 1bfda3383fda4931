use Rattle.std.proofs.Common.{◌≡◌, length}
use Rattle.std.specs.Prelude.{◌==◌}
use Rattle.image_findings.specs.CatalogFindings.{differ}
use Rattle.image_opening.proofs.rules.orders_differ.Given as goal

abbrev pub invariant-loop-rest : goal.invariant-loop-rest
invariant-loop-rest l = differ (λ r s. r.order == s.order) l.fn.rules ≡ differ (λ r s. r.order == s.order) l.rest

abbrev pub decreases-loop-rest : goal.decreases-loop-rest
decreases-loop-rest l = length l.rest
