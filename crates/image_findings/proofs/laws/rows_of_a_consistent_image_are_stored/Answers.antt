use Rattle.image_findings.proofs.Checks.{no_finding}
use Rattle.image_findings.proofs.StoredRows.{each_under}
use Rattle.image_findings.proofs.laws.rows_of_a_consistent_image_are_stored.Goals as goal

pub returns : goal.returns
returns c image bytes h = each_under image bytes (no_finding image h)
