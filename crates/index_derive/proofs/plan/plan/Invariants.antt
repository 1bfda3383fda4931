use Rattle.std.proofs.Common.{◌≡◌, map, take}
use Rattle.index_derive.specs.Walks.{planned_column}
use Rattle.index_derive.proofs.plan.plan.Given as goal

abbrev pub invariant-loop-segment : goal.invariant-loop-segment
invariant-loop-segment l = l.parts.items ≡ map (planned_column l.schema) (take l.segment-index l.segment-items)
