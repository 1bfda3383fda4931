use Rattle.std.proofs.Common.{◌≡◌, ◌-◌, ◌+◌, suc, refl, sym, ap, ◌∙◌, arith}
use Rattle.log_record.specs.EntryCuts.{pairs_cut}
use Rattle.log_record.proofs.schemas.skip_pairs.Goals as goal

pub loop-index-init : goal.loop-index-init
loop-index-init c =
    let same : c.args.count - 0 ≡ c.args.count = omega arith in
    λ test. ap (λ k. pairs_cut k test c.args.bytes.now c.args.missing) same

pub returns-in_default : goal.returns-in_default
returns-in_default c =
    let same : suc (c.args.count - 1 - c.loop-index.index) ≡ c.args.count - c.loop-index.index = omega (arith, c.loop-index-test.true) in
    λ test. sym (ap (λ k. pairs_cut k test c.loop-index.rest.now c.loop-index.left) same ∙ c.loop-index.invariant test) ∙ c.in_default.ensures (pairs_cut (c.args.count - 1 - c.loop-index.index) test)

pub loop-index-preserved : goal.loop-index-preserved
loop-index-preserved c =
    let same : suc (c.args.count - 1 - c.loop-index.index) ≡ c.args.count - c.loop-index.index = omega (arith, c.loop-index-test.true) in
    let next : c.args.count - (c.loop-index.index + 1) ≡ c.args.count - 1 - c.loop-index.index = omega (arith, c.loop-index-test.true) in
    λ test. ap (λ k. pairs_cut k test c.in-Some.behind.now c.in-Some.lacking) next
    ∙ sym (c.in-Some.ensures (pairs_cut (c.args.count - 1 - c.loop-index.index) test))
    ∙ ap (λ k. pairs_cut k test c.loop-index.rest.now c.loop-index.left) same
    ∙ c.loop-index.invariant test

pub returns : goal.returns
returns c =
    let none : c.args.count - c.loop-index.index ≡ 0 = omega (arith, c.loop-index-test.false) in
    λ test. sym (c.loop-index.invariant test) ∙ ap (λ k. pairs_cut k test c.loop-index.rest.now c.loop-index.left) none
