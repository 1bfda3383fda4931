use Rattle.std.proofs.Common.{◌≡◌, ◌+◌, [], ◌∷◌, length, refl, sym, ap, length-append, arith}
use Rattle.column_set.proofs.Passing.{ends, none_empty, passes, skips, starts}
use Rattle.column_set.proofs.without_column.count_of_others.Goals as goal

pub loop-number-init : goal.loop-number-init
loop-number-init c = record { bound = omega arith; walk = starts c.args.column c.args.values.now (λ passed. length passed ≡ 0) refl }

pub loop-number-preserved-then-number-column : goal.loop-number-preserved-then-number-column
loop-number-preserved-then-number-column c =
    let parts = ap length c.in-Some.ensures.split.0 in
    record {
      bound = omega (arith, c.loop-number.invariant.bound, parts, c.in-Some.ensures.split.1, length-append c.in-Some.field-0-1.now c.in-Some.after.now);
      walk = passes c.args.column c.args.values.now c.loop-number.rest.now (λ passed. length passed ≡ c.loop-number.count) (λ passed. length passed ≡ c.loop-number.count + 1)
          c.in-Some.number c.in-Some.field-0-1.now c.in-Some.after.now c.if-number-column.true
          (none_empty c.loop-number.rest.now c.in-Some.field-0-1.now c.in-Some.after.now c.in-Some.ensures.split) c.in-Some.ensures.value
          (λ passed value text told. omega (arith, length-append passed (value ∷ []), told)) c.loop-number.invariant.walk;
    }

pub loop-number-preserved : goal.loop-number-preserved
loop-number-preserved c =
    let parts = ap length c.in-Some.ensures.split.0 in
    record {
      bound = omega (arith, c.loop-number.invariant.bound, parts, c.in-Some.ensures.split.1, length-append c.in-Some.field-0-1.now c.in-Some.after.now);
      walk = skips c.args.column c.args.values.now c.loop-number.rest.now (λ passed. length passed ≡ c.loop-number.count)
          c.in-Some.number c.in-Some.field-0-1.now c.in-Some.after.now c.if-number-column.false
          (none_empty c.loop-number.rest.now c.in-Some.field-0-1.now c.in-Some.after.now c.in-Some.ensures.split) c.in-Some.ensures.value c.loop-number.invariant.walk;
    }

pub returns-clause-count : goal.returns-clause-count
returns-clause-count c = λ all stand. sym (ends c.args.column c.args.values.now c.loop-number.rest.now (λ passed. length passed ≡ c.loop-number.count) c.in_default.ensures.value c.loop-number.invariant.walk all stand)
