use Rattle.std.proofs.Common.{Some}
use Rattle.column_set.specs.Rows.{record_values_in_order, values_in_order}
use Rattle.long_rows.proofs.ChangedValues.{value_laws}
use Rattle.long_rows.proofs.Taken.{changed_counts}
use Rattle.long_rows.specs.KeptRows.{given_values, kept_row}
use Rattle.long_rows.proofs.Given.{names}
use Rattle.long_rows.proofs.Kept.{fields_kept}
use Rattle.long_rows.proofs.counting.counts_after_a_put.Goals as goal

pub returns : goal.returns
returns c found fields bookmark rows held sorted has =
    changed_counts value_laws found.values bookmark (Some (kept_row found fields)) (given_values (kept_row found fields) fields) rows held sorted
    (names found 0 (values_in_order (kept_row found fields)) (record_values_in_order fields) (fields_kept found 0 fields)) has
