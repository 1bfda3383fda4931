-- Where a column stands among the fields of a record, whose columns rise.
use Rattle.std.specs.Prelude.{◌≡◌, ℕ, ◌<◌, ◌≤◌, [], length, slice_index_or}
use Rattle.column_set.specs.RecordValues.{RecordFields}

-- the column of the field at the place
abbrev pub column_at : RecordFields → ℕ → ℕ
column_at fields place = let field = slice_index_or fields place (0, []) in field.0

-- the field at the place is the column's: smaller columns stand before it and greater ones after it
pub record IsPlaceOf (fields : RecordFields) (column place : ℕ) : Type 0 where
  pub in_range : place < length fields
  pub has_column : column_at fields place ≡ column
  pub smaller_before : (j : ℕ) → j < place → column_at fields j < column
  pub greater_after : (j : ℕ) → place < j → j < length fields → column < column_at fields j

-- no field is the column's, and one would go in at the place: smaller columns before it, and greater ones from it on
pub record IsGapFor (fields : RecordFields) (column place : ℕ) : Type 0 where
  pub in_range : place ≤ length fields
  pub smaller_before : (j : ℕ) → j < place → column_at fields j < column
  pub greater_after : (j : ℕ) → place ≤ j → j < length fields → column < column_at fields j
