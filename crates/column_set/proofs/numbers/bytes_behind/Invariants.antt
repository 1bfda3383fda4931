use Rattle.std.proofs.Common.{◌≡◌, ◌≤◌, ℕ, List, length}
use Rattle.column_set.specs.declared.rows.RowValue.{RowValue}
use Rattle.column_set.specs.OtherValues.{StandsBefore}
use Rattle.column_set.proofs.numbers.bytes_behind.Given as goal

abbrev pub invariant-loop-number : goal.invariant-loop-number
invariant-loop-number l = record {
  within : length l.rest ≤ length l.fn.values;
  before : (value : ℕ × RowValue) (behind : List (ℕ × RowValue)) → value.0 ≡ l.column → StandsBefore l.column l.fn.values value behind → StandsBefore l.column l.rest value behind;
}

abbrev pub decreases-loop-number : goal.decreases-loop-number
decreases-loop-number l = length l.rest
