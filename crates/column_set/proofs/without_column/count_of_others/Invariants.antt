use Rattle.std.proofs.Common.{◌≡◌, ◌+◌, ◌≤◌, length}
use Rattle.column_set.proofs.Passing.{Walk}
use Rattle.column_set.proofs.without_column.count_of_others.Given as goal

abbrev pub invariant-loop-number : goal.invariant-loop-number
invariant-loop-number l = record {
  bound : l.count + length l.rest ≤ length l.fn.values;
  walk : Walk l.column l.fn.values l.rest (λ passed. length passed ≡ l.count);
}

abbrev pub decreases-loop-number : goal.decreases-loop-number
decreases-loop-number l = length l.rest
