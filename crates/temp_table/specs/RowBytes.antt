-- How a row stands in its node.
use Rattle.std.specs.Prelude.{ℕ, zero, suc, Bool, true, nat_le, List, [], ◌∷◌, length, take, drop, Option, Some, None}
use Rattle.std.specs.List.{flat_map}
use Rattle.temp_table.specs.TempColumns.{RowValues}

-- NULL is the byte 0. A value is the byte 1, its length in one byte, and its bytes
abbrev pub value_bytes : Option (List ℕ) → List ℕ
value_bytes None = 0 ∷ []
value_bytes (Some value) = 1 ∷ length value ∷ value

-- whether a length in one byte serves
abbrev pub is_short : Option (List ℕ) → Bool
is_short None = true
is_short (Some value) = nat_le (length value) 255

abbrev pub row_bytes : RowValues → List ℕ
row_bytes row = flat_map value_bytes row

-- ---- reading

-- the first value, and the bytes behind it
abbrev pub next_value : List ℕ → Option (List ℕ) × List ℕ
next_value [] = (None, [])
next_value (zero ∷ bytes) = (None, bytes)
next_value (suc form ∷ []) = (None, [])
next_value (suc form ∷ size ∷ bytes) = (Some (take size bytes), drop size bytes)

-- so many values
abbrev pub values_in : ℕ → List ℕ → RowValues
values_in zero bytes = []
values_in (suc count) bytes = (next_value bytes).0 ∷ values_in count (next_value bytes).1

-- the bytes behind so many values
abbrev pub behind_values : ℕ → List ℕ → List ℕ
behind_values zero bytes = bytes
behind_values (suc count) bytes = (next_value (behind_values count bytes)).1
