-- The record that a row stands for, given the long values of its table.
use Rattle.std.specs.Prelude.{◌≡◌, ℕ, ◌==◌, Bool, true, false, List, [], map, length, Option, Some, None, IsTrue, unwrap_or}
use Rattle.std.specs.List.{list_all}
use Rattle.std.specs.Option.{option_map}
use Rattle.column_set.specs.declared.rows.RowValue.{RowValue}
use Rattle.column_set.specs.declared.rows.RowValue.TheVariants.{Here, Apart}
use Rattle.column_set.specs.RecordValues.{RecordFields}
use Rattle.column_set.specs.Rows.{RowFields, is_row}
use Rattle.long_value.specs.Values.{LongValue, Values, value_of}
use Rattle.long_rows.specs.RowReferences.{identifier}

-- ---- the bytes of a value

-- the bytes of a long value, none where it is not there
abbrev pub bytes_of_value : Option LongValue → List ℕ
bytes_of_value value = unwrap_or (option_map (λ (found : LongValue). found.bytes) value) []

-- the bytes of a row's value: its own, or those of the long value that it names
abbrev pub whole_value : Values → RowValue → List ℕ
whole_value values (Here bytes) = bytes
whole_value values (Apart entry place size) = bytes_of_value (value_of (identifier entry place) values)

-- the record that a row stands for
abbrev pub record_in : Values → RowFields → RecordFields
record_in values row = map (λ field. (field.0, map (whole_value values) field.1)) row

-- ---- rows that can be read whole

abbrev pub has_length : ℕ → Option LongValue → Bool
has_length size None = false
has_length size (Some value) = size == length value.bytes

-- whether a value stands in its row, or is a long value that is there, as long as the row says
abbrev pub is_there : Values → RowValue → Bool
is_there values (Here bytes) = true
is_there values (Apart entry place size) = has_length size (value_of (identifier entry place) values)

-- whether each value of a row is there
abbrev pub is_whole : Values → RowFields → Bool
is_whole values row = list_all (λ field. list_all (is_there values) field.1) row

-- A row stands for a record: a value of more than 255 bytes is a long value of its bytes, which the row names, and each other one stands in the row.
pub record StandsFor (values : Values) (row : RowFields) (fields : RecordFields) : Type 0 where
  pub formed : IsTrue (is_row row)
  pub whole : IsTrue (is_whole values row)
  pub shown : record_in values row ≡ fields
