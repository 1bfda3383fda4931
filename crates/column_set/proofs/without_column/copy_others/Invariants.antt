use Rattle.std.proofs.Common.{◌≡◌, ◌+◌, ◌≤◌, ◌++◌, length}
use Rattle.std.specs.List.{flat_map}
use Rattle.column_set.specs.Rows.{value_bytes}
use Rattle.column_set.proofs.Passing.{Walk}
use Rattle.column_set.proofs.without_column.copy_others.Given as goal

abbrev pub invariant-loop-number : goal.invariant-loop-number
invariant-loop-number l = record {
  bound : length l.buffer.items + length l.rest ≤ 1700;
  walk : Walk l.column l.fn.values l.rest (λ passed. l.buffer.items ≡ l.fn.buffer.items ++ flat_map value_bytes passed);
}

abbrev pub decreases-loop-number : goal.decreases-loop-number
decreases-loop-number l = length l.rest
