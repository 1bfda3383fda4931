use Rattle.std.proofs.Common.{◌≡◌, true}
use Rattle.std.specs.Prelude.{nat_le}
use Rattle.std.specs.List.{list_all}
use Rattle.column_set.specs.Rows.{values_in_order}
use Rattle.tests_values.proofs.rows.wide_row.Given as goal

abbrev pub invariant-loop : goal.invariant-loop
invariant-loop l = list_all (λ old. nat_le old.0 200) (values_in_order l.row) ≡ true
