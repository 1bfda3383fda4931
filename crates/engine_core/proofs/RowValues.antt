-- The values of a record that fits the columns of its table.
use Rattle.std.proofs.Common.{◌≡◌, ℕ, Bool, true, false, ◌||◌, List, [], ◌∷◌, length, Option, Some, None, refl}
use Rattle.std.specs.Prelude.{◌^◌, nat_le, nat_lt}
use Rattle.std.specs.List.{list_all}
use Rattle.std.proofs.lemmas.Bool.{and_from}
use Rattle.column_set.specs.declared.columns.Column.{Column}
use Rattle.column_set.specs.RecordValues.{RecordFields, column_of_id, value_fits, values_fit, stands_in}
use Rattle.database_state.specs.Table.{GreatestColumns}
use Rattle.long_rows.specs.KeptRows.{are_values}
use Rattle.common_lemmas.proofs.Booleans.{and_left, and_right, impossible}
use Rattle.loggable_steps.proofs.RecordBytes.{AreNumbered, column_low, values_within}

-- ---- a field under its column

abbrev fits_found : List (List ℕ) → Option Column → Bool
fits_found values found = elim found [ Some column ↦ values_fit column values | None ↦ false ]

field_kept : (greatest : GreatestColumns) (columns : List Column) (field : ℕ × List (List ℕ)) (found : Option Column) → AreNumbered greatest columns → column_of_id columns field.0 ≡ found → fits_found field.1 found ≡ true
    → (are_values field.1 ≡ true) × (nat_lt field.0 (2 ^ 16) ≡ true)
field_kept greatest columns field None are is fits = impossible fits
field_kept greatest columns field (Some column) are is fits =
    (values_within column.kind field.1 (and_right (column.multi || nat_le (length field.1) 1) (list_all (value_fits column.kind) field.1) fits), column_low greatest columns field.0 column are is)

-- the values of a record are as long as values are, and its columns have numbers of two bytes
pub each_kept : (greatest : GreatestColumns) (columns : List Column) (fields : RecordFields) → AreNumbered greatest columns → list_all (stands_in columns) fields ≡ true
    → (list_all (λ field. are_values field.1) fields ≡ true) × (list_all (λ field. nat_lt field.0 (2 ^ 16)) fields ≡ true)
each_kept greatest columns [] are fits = (refl, refl)
each_kept greatest columns (field ∷ fields) are fits =
    let one = field_kept greatest columns field (column_of_id columns field.0) are refl (and_left (stands_in columns field) (list_all (stands_in columns) fields) fits) in
    let rest = each_kept greatest columns fields are (and_right (stands_in columns field) (list_all (stands_in columns) fields) fits) in (
      and_from (are_values field.1) (list_all (λ field. are_values field.1) fields) one.0 rest.0,
      and_from (nat_lt field.0 (2 ^ 16)) (list_all (λ field. nat_lt field.0 (2 ^ 16)) fields) one.1 rest.1,
    )
