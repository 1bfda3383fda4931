use Rattle.std.proofs.Common.{◌≡◌, ◌-◌}
use Rattle.column_set.specs.RowReading.{takes_all, values_at}
use Rattle.column_set.proofs.checking.are_values.Given as goal

abbrev pub invariant-loop : goal.invariant-loop
invariant-loop l = takes_all (values_at l.least (l.count - l.counter) l.rest) ≡ takes_all (values_at 0 l.count l.bytes)
