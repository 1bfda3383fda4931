use Rattle.std.proofs.Common.{◌≡◌, ◌-◌, ◌^◌, take, min}
use Rattle.log_record.specs.EntrySizes.{size_of_values}
use Rattle.log_record.proofs.spelling.size_of_values.Given as goal

abbrev pub invariant-loop-value : goal.invariant-loop-value
invariant-loop-value l = l.size ≡ min (size_of_values (take l.value-index l.values)) (2 ^ 64 - 1)
