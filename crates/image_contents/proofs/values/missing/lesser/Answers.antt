use Rattle.std.proofs.Common.{ap, ◌∙◌}
use Rattle.std.specs.Ordering.{is_lt}
use Rattle.std.specs.Prelude.{option_copied}
use Rattle.image_contents.proofs.LeastKeys.{lesser_first, lesser_second}
use Rattle.image_contents.proofs.values.missing.lesser.Goals as goal

pub returns-then-is_lt : goal.returns-then-is_lt
returns-then-is_lt c =
    lesser_second (option_copied c.args.first) (option_copied c.args.second) c.in-Some-Some.one.now c.in-Some-Some.other.now (ap option_copied c.in-Some-Some.is-0) (ap option_copied c.in-Some-Some.is-1) c.is_lt.result
    (c.is_lt.ensures ∙ ap is_lt c.cmp.ensures) c.if-is_lt.true

pub returns-else-is_lt : goal.returns-else-is_lt
returns-else-is_lt c =
    lesser_first (option_copied c.args.first) (option_copied c.args.second) c.in-Some-Some.one.now c.in-Some-Some.other.now (ap option_copied c.in-Some-Some.is-0) (ap option_copied c.in-Some-Some.is-1) c.is_lt.result
    (c.is_lt.ensures ∙ ap is_lt c.cmp.ensures) c.if-is_lt.false
