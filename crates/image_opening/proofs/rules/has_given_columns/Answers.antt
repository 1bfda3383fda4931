use Rattle.std.proofs.Common.{◌&&◌, ap, sym, ◌∙◌}
use Rattle.std.specs.List.{list_all}
use Rattle.laws_images.specs.SoundStates.{is_sound_column}
use Rattle.image_opening.proofs.rules.has_given_columns.Goals as goal

pub returns-then-has_own_numbers : goal.returns-then-has_own_numbers
returns-then-has_own_numbers c = c.are_sound_columns.ensures ∙ sym (ap (λ b. b && list_all is_sound_column c.args.table.now.columns) (sym c.has_own_numbers.ensures ∙ c.if-has_own_numbers.true))
