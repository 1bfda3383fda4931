use Rattle.std.proofs.Common.{◌≡◌, ℕ, [], cond, take}
use Rattle.column_set.specs.RecordValues.{values_of}
use Rattle.record_decisions.proofs.CopiedValues.{is_number_of}
use Rattle.record_decisions.proofs.preparing.record_of_row.Given as goal

-- the columns so far have their values
abbrev pub invariant-loop-column : goal.invariant-loop-column
invariant-loop-column l = (number : ℕ) → values_of l.made number ≡ cond (is_number_of (take l.column-index l.columns) number) (values_of l.row number) []
