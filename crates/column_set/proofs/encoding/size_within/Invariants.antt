use Rattle.std.proofs.Common.{◌≡◌, ◌≤◌, take}
use Rattle.column_set.specs.RowReading.{size_of_values}
use Rattle.column_set.proofs.encoding.size_within.Given as goal

abbrev pub invariant-loop-value : goal.invariant-loop-value
invariant-loop-value l = (l.size ≡ size_of_values (take l.value-index l.values)) × (l.size ≤ 1700)
