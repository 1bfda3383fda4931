use Rattle.std.proofs.Common.{◌≡◌}
use Rattle.std.specs.Prelude.{drop}
use Rattle.image_opening.specs.ReadNodes.{left_after}
use Rattle.image_opening.proofs.told.left_after.Given as goal

abbrev pub invariant-loop-told : goal.invariant-loop-told
invariant-loop-told l = left_after l.count l.tables ≡ left_after l.left (drop l.told-index l.tables)
