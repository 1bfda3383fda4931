use Rattle.std.proofs.Common.{sym, subst}
use Rattle.std.specs.Prelude.{slice_get, List}
use Rattle.column_set.specs.declared.rows.RowValue.{RowValue}
use Rattle.column_set.specs.Rows.{values_in_order}
use Rattle.column_set.specs.RowSeen.{Sees, seen}
use Rattle.column_set.proofs.Sizes.{is_row-parts}
use Rattle.column_set.proofs.Grouping.{values_are_in_order}
use Rattle.column_set.proofs.OneColumn.{row_values_of-column}
use Rattle.column_set.proofs.row_ref.RowRef.find.Goals as goal

pub returns : goal.returns
returns c =
    let row = c.args.self.now in
    let formed = (is_row-parts row c.values.ensures.found).formed in
    subst (λ (values : List RowValue). Sees seen c.value_of.result (slice_get values c.args.at)) (sym (row_values_of-column c.args.column.0 row formed))
    (c.value_of.ensures (values_in_order row) (values_are_in_order row formed) c.values.ensures.spelled)
