use Rattle.std.proofs.Common.{arith, length, rules, refl}
use Rattle.std.specs.Int.{w16, to_le_bytes}
use Rattle.column_set.specs.Rows.{all_here}
use Rattle.column_set.proofs.Sizes.{length-small}
use Rattle.column_set.proofs.HereRows.{values_here, count_here, count_fits, field_written, columns_more, row_done, row_small, bytes_done}
use Rattle.column_set.proofs.encoding_records.encode_record.Goals as goal

pub count_of_values-count-requires : goal.count_of_values-count-requires
count_of_values-count-requires c =
    omega (arith, count_fits c.fields-fields.result.now c.args.record.now c.size-size.result c.fields-fields.ensures.fields c.requires c.size-size.ensures c.if-size-gt-MAX_ROW_SIZE.false)

pub overflow_cast-count : goal.overflow_cast-count
overflow_cast-count c =
    omega (arith, c.count_of_values-count.ensures, count_fits c.fields-fields.result.now c.args.record.now c.size-size.result c.fields-fields.ensures.fields c.requires c.size-size.ensures c.if-size-gt-MAX_ROW_SIZE.false)

pub loop-field-init : goal.loop-field-init
loop-field-init c = record {
  spelled = rw (count_here c.fields-fields.result.now, ← c.count_of_values-count.ensures) (search rules);
  columns = refl;
}

pub loop-field-preserved : goal.loop-field-preserved
loop-field-preserved c = record {
  spelled = field_written c.fields-fields.result.now c.loop-field.field-index c.field-item.result c.column.result c.values.result.now (to_le_bytes w16 (length (values_here c.fields-fields.result.now))) _ _ c.loop-field-test.true c.field-item.is c.column.ensures c.values.ensures c.loop-field.invariant.spelled c.in_ok-put_values.ensures;
  columns = columns_more c.fields-fields.result.now c.loop-field.field-index c.field-item.result c.column.result c.loop-field-test.true c.field-item.is c.column.ensures (omega arith) c.loop-field.invariant.columns;
}

pub returns-clause-ok : goal.returns-clause-ok
returns-clause-ok c = (
  row_done c.fields-fields.result.now c.args.record.now c.loop-field.field-index c.size-size.result c.fields-fields.ensures.fields c.fields-fields.ensures.formed c.requires c.size-size.ensures c.if-size-gt-MAX_ROW_SIZE.false c.loop-field-test.false c.loop-field.invariant.columns,
  bytes_done c.fields-fields.result.now c.args.record.now c.loop-field.field-index _ c.fields-fields.ensures.fields c.loop-field-test.false c.loop-field.invariant.spelled,
)

pub returns-clause-small : goal.returns-clause-small
returns-clause-small c =
    length-small (all_here c.args.record.now) c.loop-field.bytes.items
    (row_small c.args.record.now c.size-size.result c.requires c.size-size.ensures c.if-size-gt-MAX_ROW_SIZE.false) ((returns-clause-ok c).1)
