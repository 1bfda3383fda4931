use Rattle.std.proofs.Common.{◌++◌}
use Rattle.image_findings.specs.ValueFindings.{broken_values, found_value, missing_values}
use Rattle.image_contents.proofs.Least.{both_empty, no_keys}
use Rattle.image_contents.proofs.Parts.{first_parts}
use Rattle.image_contents.proofs.rows.laws.tables_without_broken_or_missing_values_have_readable_rows.Goals as goal

pub returns-clause-lists : goal.returns-clause-lists
returns-clause-lists c frames table t number held has rules broken missing = record {
  parts = first_parts frames table t has (c.values_that_are_not_broken_are_whole.ensures frames table t number has broken);
  whole = c.rows_without_missing_values_are_whole.ensures held t missing;
  rules = rules;
}

pub returns-clause-finding : goal.returns-clause-finding
returns-clause-finding c frames table t number held has rules none =
    let empty = both_empty (broken_values number t) (missing_values held t) (no_keys (found_value held t 0) (broken_values number t ++ missing_values held t) none) in
    record {
      parts = first_parts frames table t has (c.values_that_are_not_broken_are_whole.ensures frames table t number has empty.0);
      whole = c.rows_without_missing_values_are_whole.ensures held t empty.1;
      rules = rules;
    }
