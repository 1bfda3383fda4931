use Rattle.std.proofs.Common.{ℕ, ◌+◌, ◌-◌, ◌%◌, ◌^◌, sym, ap, ◌∙◌}
use Rattle.std.specs.Prelude.{ℤ}
use Rattle.std.specs.Int.{w32, cast_unsigned}
use Rattle.std.proofs.lemmas.Int.{to_z-of_z}
use Rattle.variant_trees.proofs.SumsUndone.{opposite_is}
use Rattle.variant_trees.proofs.sums.opposite.Goals as goal

pub returns : goal.returns
returns c =
    ap (λ (n : ℕ). (0 + (2 ^ 32 - n)) % 2 ^ 32) (c.cast_unsigned.ensures ∙ ap (λ (z : ℤ). cast_unsigned w32 z) (to_z-of_z w32 c.args.amount c.ranges.amount))
    ∙ sym (opposite_is c.args.amount c.ranges.amount)
