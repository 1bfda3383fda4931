use Rattle.std.proofs.Common.{arith, ap, ◌∙◌, sym, ℕ}
use Rattle.std.specs.Prelude.{slice_get}
use Rattle.column_set.specs.RowReading.{of_column}
use Rattle.column_set.specs.RowSeen.{seen}
use Rattle.column_set.proofs.RowFieldValues.{value_rest}
use Rattle.column_set.proofs.Walking.{starts, passes, skips, finds, ends_above, ends_behind, passed_none}
use Rattle.column_set.proofs.row_ref.value_of.Goals as goal

pub loop-number-init : goal.loop-number-init
loop-number-init c = (starts c.args.column c.args.bytes.now, omega arith)

pub returns-then-number-column : goal.returns-then-number-column
returns-then-number-column c = λ values order e. passed_none c.args.column values c.loop-number.passed c.args.at c.loop-number.invariant.1 (ends_above c.args.column c.args.bytes.now c.loop-number.rest.now c.loop-number.passed (c.in-Some.number, seen c.in-Some.found) c.in-Some.after.now c.if-number-column.true c.in-Some.ensures c.loop-number.invariant.0 values order e)

pub returns-then-passed-at : goal.returns-then-passed-at
returns-then-passed-at c = λ values order e.
    ap (λ (n : ℕ). slice_get (of_column c.args.column values) n) (sym c.if-passed-at.true)
    ∙ finds c.args.column c.args.bytes.now c.loop-number.rest.now c.loop-number.passed (c.in-Some.number, seen c.in-Some.found) c.in-Some.after.now c.if-number-column-2.true c.in-Some.ensures c.loop-number.invariant.0 values order e

pub overflow_add-passed : goal.overflow_add-passed
overflow_add-passed c = omega (arith, c.loop-number.invariant.1, c.if-passed-at.false)

pub loop-number-smaller-else-passed-at : goal.loop-number-smaller-else-passed-at
loop-number-smaller-else-passed-at c = value_rest c.loop-number.rest.now ((c.in-Some.number, seen c.in-Some.found), c.in-Some.after.now) c.in-Some.ensures

pub loop-number-preserved-else-passed-at : goal.loop-number-preserved-else-passed-at
loop-number-preserved-else-passed-at c = (passes c.args.column c.args.bytes.now c.loop-number.rest.now c.loop-number.passed (c.in-Some.number, seen c.in-Some.found) c.in-Some.after.now c.if-number-column-2.true c.in-Some.ensures c.loop-number.invariant.0, omega (arith, c.loop-number.invariant.1, c.if-passed-at.false))

pub loop-number-smaller : goal.loop-number-smaller
loop-number-smaller c = value_rest c.loop-number.rest.now ((c.in-Some.number, seen c.in-Some.found), c.in-Some.after.now) c.in-Some.ensures

pub loop-number-preserved : goal.loop-number-preserved
loop-number-preserved c = (skips c.args.column c.args.bytes.now c.loop-number.rest.now c.loop-number.passed (c.in-Some.number, seen c.in-Some.found) c.in-Some.after.now c.if-number-column-2.false c.in-Some.ensures c.loop-number.invariant.0, c.loop-number.invariant.1)

pub returns : goal.returns
returns c = λ values order e. passed_none c.args.column values c.loop-number.passed c.args.at c.loop-number.invariant.1 (ends_behind c.args.column c.args.bytes.now c.loop-number.rest.now c.loop-number.passed c.in_default.ensures c.loop-number.invariant.0 values order e)
