use Rattle.std.proofs.Common.{◌+◌, arith}
use Rattle.log_record.proofs.Lengths.{values_more, values_within}
use Rattle.log_record.proofs.encoding.put_values.Goals as goal

pub put_value-requires-clause-room : goal.put_value-requires-clause-room
put_value-requires-clause-room c =
    let more = values_more c.args.values.now c.loop-value.value-index c.value-item.result c.loop-value-test.true c.value-item.is in
    omega (arith, more, values_within c.args.values.now (c.loop-value.value-index + 1), c.loop-value.invariant.len, c.loop-value.invariant.room, c.requires.room)
