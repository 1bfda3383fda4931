use Rattle.std.proofs.Common.{Some, length, length-append, ap, arith}
use Rattle.column_set.proofs.Behind.{met, passed, some_left}
use Rattle.column_set.proofs.numbers.bytes_behind.Goals as goal

pub returns-then-number-column-clause-count : goal.returns-then-number-column-clause-count
returns-then-number-column-clause-count c = λ value behind own stands.
    ap (λ bytes. Some (length bytes)) (met c.args.column c.loop-number.rest.now c.in-Some.number c.in-Some.field-0-1.now c.in-Some.after.now c.if-number-column.true c.in-Some.ensures.value value behind (c.loop-number.invariant.before value behind own stands))

pub loop-number-preserved : goal.loop-number-preserved
loop-number-preserved c = record {
  within = omega (arith, c.loop-number.invariant.within, ap length c.in-Some.ensures.split.0, length-append c.in-Some.field-0-1.now c.in-Some.after.now);
  before = λ value behind own stands.
      passed c.args.column c.loop-number.rest.now c.in-Some.number c.in-Some.field-0-1.now c.in-Some.after.now c.if-number-column.false c.in-Some.ensures.value value behind own (c.loop-number.invariant.before value behind own stands);
}

pub returns-clause-count : goal.returns-clause-count
returns-clause-count c = λ value behind own stands.
    absurd (some_left c.args.column c.loop-number.rest.now c.in_default.ensures.value value behind (c.loop-number.invariant.before value behind own stands))
