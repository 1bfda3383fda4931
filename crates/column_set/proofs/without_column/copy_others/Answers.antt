use Rattle.std.proofs.Common.{◌≡◌, ◌++◌, length, sym, ap, ◌∙◌, length-append, arith}
use Rattle.std.specs.List.{flat_map}
use Rattle.column_set.specs.Rows.{value_bytes}
use Rattle.column_set.proofs.Passing.{ends, none_empty, one_more, passes, skips, starts}
use Rattle.std.proofs.lemmas.List.{append-nil}
use Rattle.column_set.proofs.without_column.copy_others.Goals as goal

pub loop-number-init : goal.loop-number-init
loop-number-init c = record {
  bound = c.requires;
  walk = starts c.args.column c.args.values.now (λ passed. c.args.buffer.now.items ≡ c.args.buffer.now.items ++ flat_map value_bytes passed) (sym (append-nil c.args.buffer.now.items));
}

pub loop-number-preserved-then-number-column : goal.loop-number-preserved-then-number-column
loop-number-preserved-then-number-column c =
    let parts = ap length c.in-Some.ensures.split.0 in
    record {
      bound = omega (arith, c.loop-number.invariant.bound, parts, ap length c.append.ensures, length-append c.loop-number.buffer.items c.in-Some.value.now, length-append c.in-Some.value.now c.in-Some.after.now);
      walk = passes c.args.column c.args.values.now c.loop-number.rest.now (λ passed. c.loop-number.buffer.items ≡ c.args.buffer.now.items ++ flat_map value_bytes passed) (λ passed. c.append.new.buffer.items ≡ c.args.buffer.now.items ++ flat_map value_bytes passed)
          c.in-Some.number c.in-Some.value.now c.in-Some.after.now c.if-number-column.true
          (none_empty c.loop-number.rest.now c.in-Some.value.now c.in-Some.after.now c.in-Some.ensures.split) c.in-Some.ensures.value
          (λ passed value text told. c.append.ensures ∙ one_more c.args.buffer.now.items c.loop-number.buffer.items passed value c.in-Some.value.now text told) c.loop-number.invariant.walk;
    }

pub loop-number-preserved : goal.loop-number-preserved
loop-number-preserved c =
    let parts = ap length c.in-Some.ensures.split.0 in
    record {
      bound = omega (arith, c.loop-number.invariant.bound, parts, length-append c.in-Some.value.now c.in-Some.after.now);
      walk = skips c.args.column c.args.values.now c.loop-number.rest.now (λ passed. c.loop-number.buffer.items ≡ c.args.buffer.now.items ++ flat_map value_bytes passed)
          c.in-Some.number c.in-Some.value.now c.in-Some.after.now c.if-number-column.false
          (none_empty c.loop-number.rest.now c.in-Some.value.now c.in-Some.after.now c.in-Some.ensures.split) c.in-Some.ensures.value c.loop-number.invariant.walk;
    }

pub returns : goal.returns
returns c = λ all stand. ends c.args.column c.args.values.now c.loop-number.rest.now (λ passed. c.loop-number.buffer.items ≡ c.args.buffer.now.items ++ flat_map value_bytes passed) c.in_default.ensures.value c.loop-number.invariant.walk all stand
