use Rattle.std.proofs.Common.{◌≡◌, arith, rules}
use Rattle.std.specs.Int.{w16, to_le_bytes}
use Rattle.table_trees.specs.Sources.{found_in}
use Rattle.table_trees.proofs.Written.{few, row_done}
use Rattle.table_trees.proofs.kept_rows.writing.keep_row.Goals as goal

pub count_of_values-count-requires : goal.count_of_values-count-requires
count_of_values-count-requires c = omega (arith, few c.fields-fields.result.now c.args.values.now c.size-size.result c.fields-fields.ensures.fields c.size-size.ensures c.if-size-gt-MAX_ROW_SIZE.false)

pub overflow_cast-count : goal.overflow_cast-count
overflow_cast-count c = omega (arith, c.count_of_values-count.ensures, few c.fields-fields.result.now c.args.values.now c.size-size.result c.fields-fields.ensures.fields c.size-size.ensures c.if-size-gt-MAX_ROW_SIZE.false)

pub put_fields-requires-clause-few : goal.put_fields-requires-clause-few
put_fields-requires-clause-few c = omega (arith, few c.fields-fields.result.now c.args.values.now c.size-size.result c.fields-fields.ensures.fields c.size-size.ensures c.if-size-gt-MAX_ROW_SIZE.false)

pub returns-clause-ok : goal.returns-clause-ok
returns-clause-ok c =
    let head : c.extend_from_slice.new.self.items ≡ to_le_bytes w16 c.count_of_values-count.result = search rules in
    row_done (found_in c.args.sources.now) c.fields-fields.result.now c.args.values.now c.count_of_values-count.result c.extend_from_slice.new.self.items c.put_fields.new.bytes.items c.fields-fields.ensures.fields c.count_of_values-count.ensures head c.in_ok-put_fields.ensures
