use Rattle.std.proofs.Common.{sym, ◌∙◌}
use Rattle.image_opening.proofs.SoundParts.{few_first}
use Rattle.image_opening.proofs.rules.has_sound_indexes.Goals as goal

pub returns-then-has_few_indexes : goal.returns-then-has_few_indexes
returns-then-has_few_indexes c = c.has_differing_indexes.ensures ∙ few_first _ _ _ _ (sym c.has_few_indexes.ensures ∙ c.if-has_few_indexes.true)
