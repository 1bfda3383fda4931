use Rattle.std.proofs.Common.{◌<◌, length, arith}
use Rattle.column_set.specs.RecordValues.{values_of}
use Rattle.record_decisions.proofs.CopiedValues.{one-more}
use Rattle.record_decisions.proofs.preparing.copy_values.Goals as goal

pub loop-at-preserved : goal.loop-at-preserved
loop-at-preserved c =
    let low : c.loop-at.at < length (values_of c.args.row.now c.args.column.0) = omega (arith, c.count-at-end.ensures) in
    one-more c.args.made.now c.loop-at.made c.push_value.new.self c.args.row.now c.args.column.0 c.loop-at.at c.in-Ok.value low c.in-Ok.ensures c.loop-at.invariant c.in-Ok-push_value.ensures
