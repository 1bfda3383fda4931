use Rattle.std.proofs.Common.{◌≡◌, ◌++◌, List, ℕ, ap, ◌∙◌}
use Rattle.std.specs.Int.{w16, to_le_bytes}
use Rattle.std.specs.List.{flat_map}
use Rattle.column_set.specs.Rows.{value_bytes, values_in_order}
use Rattle.column_set.specs.OtherValues.{other_values}
use Rattle.column_set.proofs.Passing.{stand_in_row, written}
use Rattle.column_set.proofs.without_column.write_without_column.Goals as goal

pub returns : goal.returns
returns c = λ fields formed spelled.
    let stand = stand_in_row c.args.row.now fields formed spelled in
    let others = flat_map value_bytes (other_values c.args.column.0 (values_in_order fields)) in
    let head : c.append.new.buffer.items ≡ to_le_bytes w16 c.count_of_others-count.result = c.append.ensures ∙ (λ i. c.clear.ensures i ++ c.to_le_bytes.ensures i) in
    written c.args.column.0 fields c.count_of_others-count.result c.copy_others.new.buffer.items (c.count_of_others-count.ensures.count (values_in_order fields) stand)
    (c.copy_others.ensures (values_in_order fields) stand ∙ ap (λ (xs : List ℕ). xs ++ others) head)
