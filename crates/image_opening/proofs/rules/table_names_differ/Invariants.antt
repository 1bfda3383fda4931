use Rattle.std.proofs.Common.{◌≡◌, length}
use Rattle.std.specs.Prelude.{bytes_eq}
use Rattle.image_findings.specs.CatalogFindings.{differ}
use Rattle.image_opening.proofs.rules.table_names_differ.Given as goal

abbrev pub invariant-loop-rest : goal.invariant-loop-rest
invariant-loop-rest l = differ (λ t u. bytes_eq t.name u.name) l.fn.tables ≡ differ (λ t u. bytes_eq t.name u.name) l.rest

abbrev pub decreases-loop-rest : goal.decreases-loop-rest
decreases-loop-rest l = length l.rest
