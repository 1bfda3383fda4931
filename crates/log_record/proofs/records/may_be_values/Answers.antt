use Rattle.std.proofs.Common.{◌≡◌, ◌-◌, ◌+◌, suc, sym, ap, ◌∙◌, arith}
use Rattle.log_record.specs.EntryCuts.{values_cut}
use Rattle.log_record.proofs.records.may_be_values.Goals as goal

pub returns-in-Err : goal.returns-in-Err
returns-in-Err c =
    let same : suc (c.args.count - 1 - c.loop-index.index) ≡ c.args.count - c.loop-index.index = omega (arith, c.loop-index-test.true) in
    sym c.in-Err.ensures ∙ ap (λ k. values_cut k c.loop-index.least c.loop-index.rest.now c.loop-index.left) same ∙ c.loop-index.invariant

pub loop-index-preserved : goal.loop-index-preserved
loop-index-preserved c =
    let same : suc (c.args.count - 1 - c.loop-index.index) ≡ c.args.count - c.loop-index.index = omega (arith, c.loop-index-test.true) in
    let next : c.args.count - (c.loop-index.index + 1) ≡ c.args.count - 1 - c.loop-index.index = omega (arith, c.loop-index-test.true) in
    ap (λ k. values_cut k c.in-Ok.column c.in-Ok.behind.now c.in-Ok.lacking) next ∙ sym c.in-Ok.ensures ∙ ap (λ k. values_cut k c.loop-index.least c.loop-index.rest.now c.loop-index.left) same ∙ c.loop-index.invariant

pub returns : goal.returns
returns c =
    let none : 0 ≡ c.args.count - c.loop-index.index = omega (arith, c.loop-index-test.false) in
    c.may_end.ensures ∙ ap (λ k. values_cut k c.loop-index.least c.loop-index.rest.now c.loop-index.left) none ∙ c.loop-index.invariant
