use Rattle.std.proofs.Common.{◌≡◌, take, true}
use Rattle.log_record.specs.EntrySizes.{field_fits}
use Rattle.log_record.proofs.spelling.values_fit.Given as goal

abbrev pub invariant-loop-value : goal.invariant-loop-value
invariant-loop-value l = field_fits (l.column, take l.value-index l.values) ≡ true
