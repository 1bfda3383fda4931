use Rattle.std.proofs.Common.{◌≡◌, length}
use Rattle.std.specs.Prelude.{map}
use Rattle.session_local.specs.SessionSide.{are_distinct}
use Rattle.session_local.specs.WellFormed.{number_of_column}
use Rattle.image_opening.proofs.rules.are_apart.Given as goal

abbrev pub invariant-loop-rest : goal.invariant-loop-rest
invariant-loop-rest l = are_distinct (map number_of_column l.fn.columns) ≡ are_distinct (map number_of_column l.rest)

abbrev pub decreases-loop-rest : goal.decreases-loop-rest
decreases-loop-rest l = length l.rest
