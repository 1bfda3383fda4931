use Rattle.std.proofs.Common.{ap, ◌∙◌}
use Rattle.std.specs.Ordering.{is_lt}
use Rattle.long_value.specs.Values.{order}
use Rattle.image_contents.proofs.LeastKeys.{new_least, same_least}
use Rattle.image_contents.proofs.values.missing.with_lesser.Goals as goal

pub returns-then-is_lt : goal.returns-then-is_lt
returns-then-is_lt c =
    new_least c.args.least c.in-Some.other c.args.id c.in-Some.is c.is_lt.result (c.is_lt.ensures ∙ ap is_lt c.cmp.ensures ∙ (λ i. is_lt (order (c.as_slice-new.ensures i) (c.as_slice-old.ensures i)))) c.if-is_lt.true

pub returns-else-is_lt : goal.returns-else-is_lt
returns-else-is_lt c =
    same_least c.args.least c.in-Some.other c.args.id c.in-Some.is c.is_lt.result (c.is_lt.ensures ∙ ap is_lt c.cmp.ensures ∙ (λ i. is_lt (order (c.as_slice-new.ensures i) (c.as_slice-old.ensures i)))) c.if-is_lt.false
