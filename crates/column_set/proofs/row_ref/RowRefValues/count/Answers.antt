use Rattle.std.proofs.Common.{ap, sym, ◌∙◌, length}
use Rattle.std.proofs.lemmas.List.{length-map}
use Rattle.column_set.specs.Rows.{values_in_order, row_values_of, bytes_here}
use Rattle.column_set.proofs.Sizes.{is_row-parts}
use Rattle.column_set.proofs.Grouping.{values_are_in_order}
use Rattle.column_set.proofs.OneColumn.{row_values_of-column, values_of-here_fields}
use Rattle.column_set.proofs.row_ref.RowRefValues.count.Goals as goal

pub returns : goal.returns
returns c =
    let row = c.args.self.now in
    let formed = (is_row-parts row c.values.ensures.found).formed in
    c.count_of.ensures (values_in_order row) (values_are_in_order row formed) c.values.ensures.spelled
    ∙ ap length (sym (row_values_of-column c.args.column.0 row formed))
    ∙ sym (length-map (row_values_of row c.args.column.0) bytes_here)
    ∙ ap length (sym (values_of-here_fields row c.args.column.0))
