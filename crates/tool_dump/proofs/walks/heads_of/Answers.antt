use Rattle.std.proofs.Common.{refl, arith, add-one, ap, sym, ◌∙◌, take, ℕ}
use Rattle.std.specs.Prelude.{count_by}
use Rattle.long_value.specs.Shown.{is_head}
use Rattle.tool_dump.proofs.Walking.{heads_all, heads_next}
use Rattle.tool_dump.proofs.walks.heads_of.Goals as goal

pub loop-i-init : goal.loop-i-init
loop-i-init c = record { few = omega arith; is = refl }

pub loop-i-preserved : goal.loop-i-preserved
loop-i-preserved c = record {
  few = omega (arith, c.loop-i.invariant.few, c.with_head-count.ensures.few);
  is = heads_next c.args.page.now.nodes c.loop-i.i c.loop-i.count c.with_head-count.result (omega (arith, c.loop-i-test.true, c.len-i-end.ensures.value)) c.loop-i.invariant.is c.with_head-count.ensures.count
      ∙ ap (λ (k : ℕ). count_by is_head (take k c.args.page.now.nodes)) (sym (add-one c.loop-i.i));
}

pub returns : goal.returns
returns c = heads_all c.args.page.now.nodes c.loop-i.i c.loop-i.count (omega (arith, c.loop-i-test.false, c.len-i-end.ensures.value)) c.loop-i.invariant.is
