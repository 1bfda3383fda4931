use Rattle.std.proofs.Common.{◌≡◌, length}
use Rattle.std.specs.Prelude.{bytes_eq}
use Rattle.image_findings.specs.CatalogFindings.{differ}
use Rattle.image_opening.proofs.rules.index_names_differ.Given as goal

abbrev pub invariant-loop-rest : goal.invariant-loop-rest
invariant-loop-rest l = differ (λ r s. bytes_eq r.name s.name) l.fn.rules ≡ differ (λ r s. bytes_eq r.name s.name) l.rest

abbrev pub decreases-loop-rest : goal.decreases-loop-rest
decreases-loop-rest l = length l.rest
