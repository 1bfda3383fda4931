use Rattle.std.proofs.Common.{◌≡◌, ap, ◌∙◌, arith}
use Rattle.temp_table.specs.RowBytes.{behind_values, next_value}
use Rattle.temp_table.proofs.Sizes.{value_at}
use Rattle.temp_table.proofs.rows.value_in.Goals as goal

pub returns : goal.returns
returns c = λ count lt.
    let all_passed : c.loop-passed._passed ≡ c.args.column = omega arith in
    c.next_value-2.ensures.value
    ∙ ap (λ rest. (next_value rest).0) (c.loop-passed.invariant ∙ ap (λ n. behind_values n c.args.bytes.now) all_passed)
    ∙ value_at c.args.column count c.args.bytes.now lt
