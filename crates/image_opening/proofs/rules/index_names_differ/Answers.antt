use Rattle.std.proofs.Common.{sym, ◌∙◌}
use Rattle.std.specs.Prelude.{bytes_eq}
use Rattle.index_derive.specs.declared.rules.IndexRule.{IndexRule}
use Rattle.image_opening.proofs.SoundParts.{differ_next, differ_stops}
use Rattle.image_opening.proofs.rules.index_names_differ.Goals as goal

pub returns-then-has_named_index : goal.returns-then-has_named_index
returns-then-has_named_index c = sym (c.loop-rest.invariant ∙ differ_stops (λ (r s : IndexRule). bytes_eq r.name s.name) c.loop-rest.rest.now c.first-item.result c.in-len1-up.len_at_least c.first-item.is (sym c.has_named_index.ensures ∙ c.if-has_named_index.true))

pub loop-rest-preserved : goal.loop-rest-preserved
loop-rest-preserved c = c.loop-rest.invariant ∙ differ_next (λ (r s : IndexRule). bytes_eq r.name s.name) c.loop-rest.rest.now c.first-item.result c.in-len1-up.len_at_least c.first-item.is (sym c.has_named_index.ensures ∙ c.if-has_named_index.false)
