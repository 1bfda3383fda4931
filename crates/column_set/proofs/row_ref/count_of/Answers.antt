use Rattle.std.proofs.Common.{arith, ◌<◌, length}
use Rattle.column_set.specs.RowSeen.{seen}
use Rattle.column_set.proofs.RowFieldValues.{value_rest}
use Rattle.column_set.proofs.Walking.{starts, passes, skips, ends_above, ends_behind, passed_count}
use Rattle.column_set.proofs.row_ref.count_of.Goals as goal

pub loop-number-init : goal.loop-number-init
loop-number-init c = (starts c.args.column c.args.bytes.now, omega arith)

pub returns-then-number-column : goal.returns-then-number-column
returns-then-number-column c = λ values order e. passed_count c.args.column values c.loop-number.count (ends_above c.args.column c.args.bytes.now c.loop-number.rest.now c.loop-number.count (c.in-Some.number, seen c.in-Some.field-0-0-1) c.in-Some.after.now c.if-number-column.true c.in-Some.ensures c.loop-number.invariant.0 values order e)

pub overflow_add-count : goal.overflow_add-count
overflow_add-count c =
    let shorter : length c.in-Some.after.now < length c.loop-number.rest.now = value_rest c.loop-number.rest.now ((c.in-Some.number, seen c.in-Some.field-0-0-1), c.in-Some.after.now) c.in-Some.ensures in
    omega (arith, c.loop-number.invariant.1, c.requires)

pub loop-number-smaller-then-number-column-2 : goal.loop-number-smaller-then-number-column-2
loop-number-smaller-then-number-column-2 c = value_rest c.loop-number.rest.now ((c.in-Some.number, seen c.in-Some.field-0-0-1), c.in-Some.after.now) c.in-Some.ensures

pub loop-number-preserved-then-number-column-2 : goal.loop-number-preserved-then-number-column-2
loop-number-preserved-then-number-column-2 c =
    let shorter : length c.in-Some.after.now < length c.loop-number.rest.now = value_rest c.loop-number.rest.now ((c.in-Some.number, seen c.in-Some.field-0-0-1), c.in-Some.after.now) c.in-Some.ensures in
    (passes c.args.column c.args.bytes.now c.loop-number.rest.now c.loop-number.count (c.in-Some.number, seen c.in-Some.field-0-0-1) c.in-Some.after.now c.if-number-column-2.true c.in-Some.ensures c.loop-number.invariant.0, omega (arith, c.loop-number.invariant.1))

pub loop-number-smaller : goal.loop-number-smaller
loop-number-smaller c = value_rest c.loop-number.rest.now ((c.in-Some.number, seen c.in-Some.field-0-0-1), c.in-Some.after.now) c.in-Some.ensures

pub loop-number-preserved : goal.loop-number-preserved
loop-number-preserved c =
    let shorter : length c.in-Some.after.now < length c.loop-number.rest.now = value_rest c.loop-number.rest.now ((c.in-Some.number, seen c.in-Some.field-0-0-1), c.in-Some.after.now) c.in-Some.ensures in
    (skips c.args.column c.args.bytes.now c.loop-number.rest.now c.loop-number.count (c.in-Some.number, seen c.in-Some.field-0-0-1) c.in-Some.after.now c.if-number-column-2.false c.in-Some.ensures c.loop-number.invariant.0, omega (arith, c.loop-number.invariant.1))

pub returns : goal.returns
returns c = λ values order e. passed_count c.args.column values c.loop-number.count (ends_behind c.args.column c.args.bytes.now c.loop-number.rest.now c.loop-number.count c.in_default.ensures c.loop-number.invariant.0 values order e)
