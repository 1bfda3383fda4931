use Rattle.image_findings.proofs.Rows.{newest_are_whole}
use Rattle.image_findings.proofs.laws.rows_without_missing_values_are_whole.Goals as goal

pub returns : goal.returns
returns c held t none = newest_are_whole held t none
