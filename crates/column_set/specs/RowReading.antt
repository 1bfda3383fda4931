-- Reading a row's bytes from left to right.
use Rattle.std.specs.Prelude.{ℕ, zero, suc, Bool, true, false, ◌&&◌, ◌||◌, ◌==◌, cond, List, [], ◌∷◌, length, take, drop, nat_le, nat_lt, Option, Some, None, unwrap_or, ◌^◌, ◌+◌, sum_by, map, filter}
use Rattle.std.specs.Int.{w16, w32, w64}
use Rattle.column_set.specs.declared.rows.RowValue.{RowValue}
use Rattle.column_set.specs.declared.rows.RowValue.TheVariants.{Here, Apart}
use Rattle.column_set.specs.Rows.{RowFields, room_in_row, value_fits_row}
use Rattle.column_set.specs.NumberReading.{◌>>=◌, number_at}

-- ---- values with their columns, and the row that they make

-- the value in front of a row's fields
abbrev pub in_front : ℕ × RowValue → RowFields → RowFields
in_front value [] = (value.0, value.1 ∷ []) ∷ []
in_front value (field ∷ fields) = cond (value.0 == field.0) ((value.0, value.1 ∷ field.1) ∷ fields) ((value.0, value.1 ∷ []) ∷ field ∷ fields)

-- the row that has the values, where their columns do not fall
abbrev pub grouped : List (ℕ × RowValue) → RowFields
grouped [] = []
grouped (value ∷ values) = in_front value (grouped values)

-- whether the values may stand in a row one after the other, the first column being `least` or more
abbrev pub are_in_order : ℕ → List (ℕ × RowValue) → Bool
are_in_order least [] = true
are_in_order least (value ∷ values) = nat_le least value.0 && nat_lt value.0 (2 ^ 16) && value_fits_row value.1 && are_in_order value.0 values

-- ---- reading

abbrev pub form_at : List ℕ → Option (ℕ × List ℕ)
form_at [] = None
form_at (form ∷ bytes) = Some (form, bytes)

unfoldable pub here_at : ℕ → List ℕ → Option (RowValue × List ℕ)
here_at n bytes = cond (nat_lt 255 n || nat_lt (length bytes) n) None (Some (Here (take n bytes), drop n bytes))

unfoldable pub apart_at : List ℕ → Option (RowValue × List ℕ)
apart_at bytes = do
  entry ← number_at w64 bytes
  place ← number_at w32 entry.1
  size ← number_at w32 place.1
  cond (nat_lt size.0 256 || nat_lt 1048576 size.0) None (Some (Apart entry.0 place.0 size.0, size.1))

unfoldable pub body_at : ℕ → ℕ → List ℕ → Option (RowValue × List ℕ)
body_at zero n bytes = here_at n bytes
body_at (suc zero) n bytes = cond (n == 16) (apart_at bytes) None
body_at (suc (suc form)) n bytes = None

unfoldable pub value_at : List ℕ → Option ((ℕ × RowValue) × List ℕ)
value_at bytes = do
  column ← number_at w16 bytes
  form ← form_at column.1
  n ← number_at w16 form.1
  body ← body_at form.0 n.0 n.1
  Some ((column.0, body.0), body.1)

-- the same where the column is `least` or more
unfoldable pub next_at : ℕ → List ℕ → Option ((ℕ × RowValue) × List ℕ)
next_at least bytes = do
  value ← value_at bytes
  cond (nat_lt value.0.0 least) None (Some value)

-- so many values, whose columns do not fall from `least` on
unfoldable pub values_at : ℕ → ℕ → List ℕ → Option (List (ℕ × RowValue) × List ℕ)
values_at least zero bytes = Some ([], bytes)
values_at least (suc n) bytes = do
  first ← next_at least bytes
  others ← values_at first.0.0 n first.1
  Some (first.0 ∷ others.0, others.1)

-- the values of a row, of which the bytes are all
unfoldable pub read_values : List ℕ → Option (List (ℕ × RowValue))
read_values bytes = do
  count ← number_at w16 bytes
  values ← values_at 0 count.0 count.1
  cond (length values.1 == 0) (Some values.0) None

-- whether values were read
abbrev pub is_read : Option (List (ℕ × RowValue)) → Bool
is_read (Some values) = true
is_read None = false

-- whether values were read, with no byte behind them
abbrev pub takes_all : Option (List (ℕ × RowValue) × List ℕ) → Bool
takes_all (Some x) = length x.1 == 0
takes_all None = false

-- the row that has the bytes
unfoldable pub read_row : List ℕ → Option RowFields
read_row bytes = do
  values ← read_values bytes
  Some (grouped values)

abbrev pub row_in : List ℕ → RowFields
row_in bytes = unwrap_or (read_row bytes) []

-- the size of a row that has the values
abbrev pub size_of_values : List (ℕ × RowValue) → ℕ
size_of_values values = 2 + sum_by (λ value. 5 + room_in_row value.1) values

-- the values of a column
abbrev pub of_column : ℕ → List (ℕ × RowValue) → List RowValue
of_column column values = map (λ value. value.1) (filter (λ value. value.0 == column) values)
