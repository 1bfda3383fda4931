use Rattle.std.proofs.Common.{refl, arith, add-one, ap, sym, ◌∙◌, take, ℕ}
use Rattle.std.specs.Prelude.{count_by, is_none}
use Rattle.tool_dump.proofs.Telling.{free_all, free_next}
use Rattle.tool_dump.proofs.pages.free_count.Goals as goal

pub loop-page-init : goal.loop-page-init
loop-page-init c = record { few = omega arith; is = refl }

pub loop-page-preserved : goal.loop-page-preserved
loop-page-preserved c = record {
  few = omega (arith, c.loop-page.invariant.few, c.with_free-count.ensures.few);
  is = free_next c.args.space.now c.loop-page.page c.loop-page.count c.with_free-count.result (omega (arith, c.loop-page-test.true, c.len-page-end.ensures.value)) c.loop-page.invariant.is c.with_free-count.ensures.count
      ∙ ap (λ (k : ℕ). count_by is_none (take k c.args.space.now)) (sym (add-one c.loop-page.page));
}

pub returns : goal.returns
returns c = free_all c.args.space.now c.loop-page.page c.loop-page.count (omega (arith, c.loop-page-test.false, c.len-page-end.ensures.value)) c.loop-page.invariant.is
