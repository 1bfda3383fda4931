-- The values of a row that are not a column's.
use Rattle.std.specs.Prelude.{◌≡◌, ◌<◌, ◌^◌, ◌==◌, ℕ, not, List, ◌∷◌, ◌++◌, filter, IsTrue}
use Rattle.std.specs.List.{AllByRecursion, flat_map}
use Rattle.column_set.specs.declared.rows.RowValue.{RowValue}
use Rattle.column_set.specs.Rows.{value_bytes, value_fits_row}

-- those of the other columns
abbrev pub other_values : ℕ → List (ℕ × RowValue) → List (ℕ × RowValue)
other_values column values = filter (λ value. not (value.0 == column)) values

-- a value that may stand in a row, with its column
abbrev pub MayStand : ℕ × RowValue → Type 0
MayStand value = (value.0 < 2 ^ 16) × IsTrue (value_fits_row value.1)

-- The values stand in the bytes one after the other.
pub record StandIn (bytes : List ℕ) (values : List (ℕ × RowValue)) : Type 0 where
  pub fit : AllByRecursion MayStand values
  pub spelled : bytes ≡ flat_map value_bytes values

-- One value of a column stands in the bytes, those of other columns before it, and these behind it.
pub record StandsBefore (column : ℕ) (bytes : List ℕ) (value : ℕ × RowValue) (behind : List (ℕ × RowValue)) : Type 0 where
  pub front : List (ℕ × RowValue)
  pub apart : AllByRecursion (λ other. other.0 ≡ column → ⊥) front
  pub stand : StandIn bytes (front ++ value ∷ behind)
