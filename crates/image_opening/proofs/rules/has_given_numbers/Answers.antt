use Rattle.std.proofs.Common.{◌&&◌, ap, sym, ◌∙◌}
use Rattle.std.specs.List.{list_all}
use Rattle.laws_engine.specs.ColumnNumbers.{are_in_range, is_given_number}
use Rattle.image_opening.proofs.rules.has_given_numbers.Goals as goal

pub returns-then-are_in_range : goal.returns-then-are_in_range
returns-then-are_in_range c =
    c.are_all_given.ensures
    ∙ sym (ap (λ b. b && list_all (is_given_number c.args.table.now.greatest) c.args.table.now.columns) (sym (c.are_in_range.ensures ∙ ap are_in_range c.greatest.ensures) ∙ c.if-are_in_range.true))
