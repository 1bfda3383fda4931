use Rattle.std.proofs.Common.{sym, ◌∙◌}
use Rattle.std.specs.Prelude.{◌==◌}
use Rattle.index_derive.specs.declared.rules.IndexRule.{IndexRule}
use Rattle.image_opening.proofs.SoundParts.{differ_next, differ_stops}
use Rattle.image_opening.proofs.rules.orders_differ.Goals as goal

pub returns-then-has_order : goal.returns-then-has_order
returns-then-has_order c = sym (c.loop-rest.invariant ∙ differ_stops (λ (r s : IndexRule). r.order == s.order) c.loop-rest.rest.now c.first-item.result c.in-len1-up.len_at_least c.first-item.is (sym c.has_order.ensures ∙ c.if-has_order.true))

pub loop-rest-preserved : goal.loop-rest-preserved
loop-rest-preserved c = c.loop-rest.invariant ∙ differ_next (λ (r s : IndexRule). r.order == s.order) c.loop-rest.rest.now c.first-item.result c.in-len1-up.len_at_least c.first-item.is (sym c.has_order.ensures ∙ c.if-has_order.false)
