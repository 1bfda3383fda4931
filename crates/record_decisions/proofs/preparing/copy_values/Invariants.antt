use Rattle.std.proofs.Common.{◌≡◌, ℕ, ◌++◌, cond, take}
use Rattle.std.specs.Prelude.{◌==◌}
use Rattle.column_set.specs.RecordValues.{values_of}
use Rattle.record_decisions.proofs.preparing.copy_values.Given as goal

-- the column has its first values behind those that it had
abbrev pub invariant-loop-at : goal.invariant-loop-at
invariant-loop-at l =
    (number : ℕ) → values_of l.made number ≡ cond (number == l.column.0) (values_of l.fn.made number ++ take l.at (values_of l.row number)) (values_of l.fn.made number)
