use Rattle.std.proofs.Common.{sym, ap, ◌∙◌}
use Rattle.std.specs.Ordering.{is_lt}
use Rattle.image_contents.proofs.Differing.{first_is_less, second_is_less}
use Rattle.image_contents.proofs.entries.differing.lesser_of.Goals as goal

pub returns-then-is_lt : goal.returns-then-is_lt
returns-then-is_lt c found =
    first_is_less found c.new.result c.args.have.now c.args.want.now c.new.ensures.entry c.new.ensures.stored
    (ap is_lt (sym c.cmp.ensures) ∙ sym c.is_lt.ensures ∙ c.if-is_lt.true)

pub returns-else-is_lt : goal.returns-else-is_lt
returns-else-is_lt c found =
    second_is_less found c.new-else-is_lt.result c.args.have.now c.args.want.now c.new-else-is_lt.ensures.entry c.new-else-is_lt.ensures.stored
    (ap is_lt (sym c.cmp.ensures) ∙ sym c.is_lt.ensures ∙ c.if-is_lt.false)
