use Rattle.std.proofs.Common.{◌≤◌, arith}
use Rattle.column_set.specs.Rows.{row_size}
use Rattle.column_set.proofs.Sizes.{values_fit, size-length, length-small}
use Rattle.column_set.proofs.Spelling.{small_row, written_row}
use Rattle.column_set.proofs.encoding.encode.Goals as goal

pub overflow_cast-values : goal.overflow_cast-values
overflow_cast-values c = omega (arith, size-length c.values-values.result.now, c.in-Some.ensures)

pub put_value-requires : goal.put_value-requires
put_value-requires c = rw c.loop-column-item.is (values_fit c.values-values.result.now c.values-values.ensures.in_order c.loop-column.column-index _ c.loop-column-test.true)

pub returns-clause-ok : goal.returns-clause-ok
returns-clause-ok c =
    written_row c.args.row.now c.values-values.result.now c.loop-column.column-index c.loop-column.bytes.items c.values-values.ensures.values c.values-values.ensures.well_formed
    (small_row c.args.row.now c.values-values.result.now c.in-Some.size c.values-values.ensures.values c.in-Some.ensures)
    c.loop-column-test.false c.loop-column.invariant

pub returns-clause-small : goal.returns-clause-small
returns-clause-small c =
    let small : row_size c.args.row.now ≤ 1700 = small_row c.args.row.now c.values-values.result.now c.in-Some.size c.values-values.ensures.values c.in-Some.ensures in
    length-small c.args.row.now c.loop-column.bytes.items small ((returns-clause-ok c).1)
