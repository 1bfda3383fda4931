use Rattle.std.proofs.Common.{arith, ◌≡◌, ◌+◌, take}
use Rattle.column_set.specs.Rows.{room_in_row}
use Rattle.column_set.specs.RowReading.{size_of_values}
use Rattle.column_set.proofs.Sizes.{values_fit, size-take, size-more}
use Rattle.column_set.proofs.encoding.size_within.Goals as goal

pub room-requires : goal.room-requires
room-requires c = rw c.loop-value-item.is (values_fit c.args.values.now c.requires c.loop-value.value-index _ c.loop-value-test.true)

pub returns-then-size-gt-MAX_ROW_SIZE : goal.returns-then-size-gt-MAX_ROW_SIZE
returns-then-size-gt-MAX_ROW_SIZE c =
    let more : size_of_values (take (c.loop-value.value-index + 1) c.args.values.now) ≡ size_of_values (take c.loop-value.value-index c.args.values.now) + (5 + room_in_row c.loop-value-item.result.1) = size-more c.args.values.now c.loop-value.value-index c.loop-value-item.result c.loop-value-test.true c.loop-value-item.is in
    omega (arith, size-take c.args.values.now (c.loop-value.value-index + 1))

pub loop-value-preserved : goal.loop-value-preserved
loop-value-preserved c =
    let more : size_of_values (take (c.loop-value.value-index + 1) c.args.values.now) ≡ size_of_values (take c.loop-value.value-index c.args.values.now) + (5 + room_in_row c.loop-value-item.result.1) = size-more c.args.values.now c.loop-value.value-index c.loop-value-item.result c.loop-value-test.true c.loop-value-item.is in
    (omega arith, omega arith)
