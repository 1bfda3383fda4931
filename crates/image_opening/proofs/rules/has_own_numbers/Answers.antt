use Rattle.std.proofs.Common.{◌&&◌, map, ap, sym, ◌∙◌}
use Rattle.session_local.specs.SessionSide.{are_distinct}
use Rattle.session_local.specs.WellFormed.{number_of_column}
use Rattle.image_opening.proofs.rules.has_own_numbers.Goals as goal

pub returns-then-has_given_numbers : goal.returns-then-has_given_numbers
returns-then-has_given_numbers c =
    c.has_differing_numbers.ensures ∙ sym (ap (λ b. b && are_distinct (map number_of_column c.args.table.now.columns)) (sym c.has_given_numbers.ensures ∙ c.if-has_given_numbers.true))
