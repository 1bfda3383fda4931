use Rattle.std.proofs.Common.{◌≡◌, ◌-◌, ◌^◌, take, min}
use Rattle.column_set.specs.RecordValues.{size_of_values}
use Rattle.column_set.proofs.fields.size_of_values.Given as goal

abbrev pub invariant-loop-value : goal.invariant-loop-value
invariant-loop-value l = l.total ≡ min (size_of_values (take l.value-index l.values)) (2 ^ 64 - 1)
