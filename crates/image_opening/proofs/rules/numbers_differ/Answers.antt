use Rattle.std.proofs.Common.{sym, ◌∙◌}
use Rattle.image_opening.proofs.SoundParts.{distinct_when_rising}
use Rattle.image_opening.proofs.rules.numbers_differ.Goals as goal

pub returns-then-columns_rise : goal.returns-then-columns_rise
returns-then-columns_rise c = c.if-columns_rise.true ∙ sym (distinct_when_rising 0 c.args.columns.now (sym c.columns_rise.ensures ∙ c.if-columns_rise.true))
