use Rattle.std.proofs.Common.{◌≡◌, ◌+◌, ◌++◌, ap, length, arith, rules, true}
use Rattle.std.specs.Int.{w16, to_le_bytes}
use Rattle.column_set.specs.Rows.{record_values_in_order}
use Rattle.log_grammar.proofs.Values.{count_of, field_written, record_done, sum_fits, each_field_short}
use Rattle.log_grammar.specs.EntryBytes.{are_short, record_fits}
use Rattle.log_record.specs.EntrySizes.{size_of_fields, size_of_values}
use Rattle.log_record.proofs.Lengths.{fields_more, fields_within}
use Rattle.log_record.proofs.encoding.put_record.Goals as goal

pub count_of_values-count-requires : goal.count_of_values-count-requires
count_of_values-count-requires c = sum_fits c.fields-fields.result.now (rw c.fields-fields.ensures.fields c.requires.fits)

pub overflow_cast-count : goal.overflow_cast-count
overflow_cast-count c = omega (arith, c.count_of_values-count.ensures, sum_fits c.fields-fields.result.now (rw c.fields-fields.ensures.fields c.requires.fits))

pub put_values-requires-clause-short : goal.put_values-requires-clause-short
put_values-requires-clause-short c =
    let fits : record_fits c.fields-fields.result.now ≡ true = rw c.fields-fields.ensures.fields c.requires.fits in
    let item : are_short c.field-item.result.1 ≡ true = rw c.field-item.is (each_field_short c.fields-fields.result.now fits c.loop-field.field-index _ c.loop-field-test.true) in
    rw c.values.ensures item

pub put_values-requires-clause-room : goal.put_values-requires-clause-room
put_values-requires-clause-room c =
    let more = fields_more c.fields-fields.result.now c.loop-field.field-index c.field-item.result c.loop-field-test.true c.field-item.is in
    omega (arith, more, fields_within c.fields-fields.result.now (c.loop-field.field-index + 1), ap size_of_fields c.fields-fields.ensures.fields, ap size_of_values c.values.ensures, c.loop-field.invariant.len, c.loop-field.invariant.room, c.requires.room)

pub loop-field-init : goal.loop-field-init
loop-field-init c = record {
  items = rw (count_of c.fields-fields.result.now, ← c.count_of_values-count.ensures) (search rules);
  len = omega (arith, c.put_number.ensures.len);
  room = c.put_number.ensures.room;
}

pub loop-field-preserved : goal.loop-field-preserved
loop-field-preserved c =
    let more = fields_more c.fields-fields.result.now c.loop-field.field-index c.field-item.result c.loop-field-test.true c.field-item.is in
    record {
      items = field_written c.fields-fields.result.now c.loop-field.field-index c.field-item.result c.column.result c.values.result.now (c.args.bytes.now.items ++ to_le_bytes w16 (length (record_values_in_order c.fields-fields.result.now))) _ _ c.loop-field-test.true c.field-item.is c.column.ensures c.values.ensures c.loop-field.invariant.items c.put_values.ensures.items;
      len = omega (arith, more, ap size_of_values c.values.ensures, c.loop-field.invariant.len, c.put_values.ensures.len);
      room = omega (arith, c.loop-field.invariant.room, c.put_values.ensures.room);
    }

pub returns-clause-items : goal.returns-clause-items
returns-clause-items c = record_done c.fields-fields.result.now c.args.values.now c.loop-field.field-index c.args.bytes.now.items _ c.fields-fields.ensures.fields c.loop-field-test.false c.loop-field.invariant.items
