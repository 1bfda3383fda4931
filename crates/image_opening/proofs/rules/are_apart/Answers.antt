use Rattle.std.proofs.Common.{sym, ◌∙◌}
use Rattle.image_opening.proofs.SoundParts.{distinct_next, distinct_stops}
use Rattle.image_opening.proofs.rules.are_apart.Goals as goal

pub returns-then-has_number : goal.returns-then-has_number
returns-then-has_number c = sym (c.loop-rest.invariant ∙ distinct_stops c.loop-rest.rest.now c.first-item.result c.in-len1-up.len_at_least c.first-item.is (sym c.has_number.ensures ∙ c.if-has_number.true))

pub loop-rest-preserved : goal.loop-rest-preserved
loop-rest-preserved c = c.loop-rest.invariant ∙ distinct_next c.loop-rest.rest.now c.first-item.result c.in-len1-up.len_at_least c.first-item.is (sym c.has_number.ensures ∙ c.if-has_number.false)
