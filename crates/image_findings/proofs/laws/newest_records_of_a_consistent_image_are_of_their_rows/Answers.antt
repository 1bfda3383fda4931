use Rattle.image_findings.proofs.Checks.{no_finding}
use Rattle.image_findings.proofs.StoredRows.{each_own_record}
use Rattle.image_findings.proofs.laws.newest_records_of_a_consistent_image_are_of_their_rows.Goals as goal

pub returns : goal.returns
returns c image bytes h = each_own_record image bytes (no_finding image h)
