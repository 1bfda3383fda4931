use Rattle.image_findings.proofs.Rows.{left_empty, no_keys, right_empty}
use Rattle.image_findings.specs.ValueFindings.{broken_values, found_value, missing_values}
use Rattle.image_findings.proofs.laws.values_without_a_finding_are_whole.Goals as goal

pub returns : goal.returns
returns c number held t none =
    let empty = no_keys (found_value held t 0) _ none in
    (left_empty (broken_values number t) (missing_values held t) empty, right_empty (broken_values number t) (missing_values held t) empty)
