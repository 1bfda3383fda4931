-- What a record is: an association list from column numbers to values.
use Rattle.std.specs.Prelude.{◌≡◌, ℕ, ◌-◌, ◌^◌, min, Bool, ltb, ◌&&◌, List, length, IsTrue}
use Rattle.std.specs.Ordering.{nat_cmp}
use Rattle.std.specs.List.{list_all}
use Rattle.std.specs.FinMap.{is_sorted}
use Rattle.column_set.specs.RecordValues.{RecordFields, record_size}

-- the columns strictly rise, and each has a value
abbrev pub is_record : List (ℕ × List (List ℕ)) → Bool
is_record fields = is_sorted nat_cmp fields && list_all (λ field. ltb 0 (length field.1)) fields

-- the fields of a record, and its size kept beside them: past the largest number it is that number
pub record IsMeasured (fields : RecordFields) (size : ℕ) : Type 0 where
  pub formed : IsTrue (is_record fields)
  pub measured : size ≡ min (record_size fields) (2 ^ 64 - 1)
