-- The columns of a record that is changed rise on.
use Rattle.std.proofs.Common.{ℕ, not, List, [], ◌∷◌}
use Rattle.std.specs.Prelude.{◌==◌, filter, fold}
use Rattle.std.specs.Ordering.{nat_cmp}
use Rattle.std.specs.Cmp.{nat_cmp_total}
use Rattle.std.specs.FinMap.Entries.{is_sorted-put, is_sorted-where_key}
use Rattle.column_set.specs.declared.columns.Column.{Column}
use Rattle.column_set.specs.RecordValues.{RecordFields, with_values}
use Rattle.session_local.specs.RecordCalls.{with_sums_at_zero}
use Rattle.laws_versions.specs.EscrowNumbers.{ColumnsRise}

-- where the values of a column are set
pub values_rise : (fields : RecordFields) (column : ℕ) (values : List (List ℕ)) → ColumnsRise fields → ColumnsRise (with_values fields column values)
values_rise fields column [] rise = is_sorted-where_key nat_cmp (λ k. not (k == column)) fields rise
values_rise fields column (value ∷ values) rise = is_sorted-put nat_cmp nat_cmp_total column (value ∷ values) fields rise

-- where the sums begin at 0
pub zeros_rise : (columns : List Column) (fields : RecordFields) → ColumnsRise fields → ColumnsRise (with_sums_at_zero columns fields)
zeros_rise columns fields rise = each (filter (λ c. c.escrow) columns) fields rise
  where
    each : (sums : List Column) (fields : RecordFields) → ColumnsRise fields → ColumnsRise (fold (λ (fields : RecordFields) (column : Column). with_values fields column.id.0 ((0 ∷ 0 ∷ 0 ∷ 0 ∷ []) ∷ [])) fields sums)
    each [] fields rise = rise
    each (c ∷ sums) fields rise = each sums (with_values fields c.id.0 ((0 ∷ 0 ∷ 0 ∷ 0 ∷ []) ∷ [])) (values_rise fields c.id.0 ((0 ∷ 0 ∷ 0 ∷ 0 ∷ []) ∷ []) rise)
