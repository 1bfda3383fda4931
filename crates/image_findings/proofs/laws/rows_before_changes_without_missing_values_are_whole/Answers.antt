use Rattle.image_findings.proofs.Rows.{each_before_whole}
use Rattle.image_findings.proofs.laws.rows_before_changes_without_missing_values_are_whole.Goals as goal

pub returns : goal.returns
returns c held t none = each_before_whole held t none
