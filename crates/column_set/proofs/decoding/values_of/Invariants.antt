use Rattle.std.proofs.Common.{◌≡◌, ◌-◌}
use Rattle.column_set.specs.RowReading.{values_at}
use Rattle.column_set.proofs.Loop.{with_front}
use Rattle.column_set.proofs.decoding.values_of.Given as goal

abbrev pub invariant-loop : goal.invariant-loop
invariant-loop l = with_front l.values.items (values_at l.least (l.count - l.counter) l.rest) ≡ values_at 0 l.count l.bytes
