-- Rows: how a record stands in its page.
use Rattle.std.specs.Prelude.{ℕ, ◌+◌, ◌^◌, ◌≡◌, Bool, true, false, ◌&&◌, ◌==◌, List, [], ◌∷◌, ◌++◌, length, map, nat_le, nat_lt, sum_by, slice_get, Option, Some, None, unwrap_or, IsTrue, bytes_eq}
use Rattle.std.specs.List.{flat_map, list_all}
use Rattle.std.specs.Int.{w16, w32, w64, to_le_bytes}
use Rattle.std.specs.Ordering.{nat_cmp}
use Rattle.std.specs.FinMap.Entries.{is_sorted}
use Rattle.column_set.specs.declared.rows.RowValue.{RowValue}
use Rattle.column_set.specs.declared.rows.RowValue.TheVariants.{Here, Apart}
use Rattle.column_set.specs.RecordValues.{RecordFields, lookup_by_number}

-- ---- what a row is

-- the columns that have a value, by rising number, each with its values in their order
abbrev pub RowFields : Type 0
RowFields = List (ℕ × List RowValue)

-- the values by rising column and in their order, each with its column
abbrev pub values_in_order : RowFields → List (ℕ × RowValue)
values_in_order row = flat_map (λ field. map (λ value. (field.0, value)) field.1) row

-- the bytes of a value that stand in the row: its own, or the 16 that say where it is kept
abbrev pub room_in_row : RowValue → ℕ
room_in_row (Here bytes) = length bytes
room_in_row (Apart entry place size) = 16

-- the size of a row: a count of 2 bytes and, for each value, 5 bytes and those that stand in the row
abbrev pub row_size : RowFields → ℕ
row_size row = 2 + sum_by (λ value. 5 + room_in_row value.1) (values_in_order row)

-- a value of at most 255 bytes stands in the row, and one of 256 to 1,048,576 apart
abbrev pub value_fits_row : RowValue → Bool
value_fits_row (Here bytes) = nat_le (length bytes) 255
value_fits_row (Apart entry place size) = nat_lt entry (2 ^ 64) && nat_lt place (2 ^ 32) && nat_le 256 size && nat_le size 1048576

abbrev pub field_fits_row : ℕ × List RowValue → Bool
field_fits_row field = nat_lt field.0 (2 ^ 16) && nat_lt 0 (length field.1) && list_all value_fits_row field.1

-- the columns strictly rise, and each has a value
abbrev pub is_well_formed : RowFields → Bool
is_well_formed row = is_sorted nat_cmp row && list_all field_fits_row row

-- a row's values are so few that two bytes count them
abbrev pub is_row : RowFields → Bool
is_row row = is_well_formed row && nat_lt (length (values_in_order row)) (2 ^ 16)

-- The most bytes of a row that is written to a page. It is asked apart: a longer row is a row.
abbrev pub largest_row : ℕ
largest_row = 1700

-- ---- the bytes of a row, each number lowest byte first

-- a value's column, its form, the count of the bytes that stand in the row, and these: form 0 has the value's own, form 1 the number of the entry that wrote it, its place there and its length
abbrev pub value_bytes : ℕ × RowValue → List ℕ
value_bytes (column, Here bytes) = to_le_bytes w16 column ++ (0 ∷ to_le_bytes w16 (length bytes)) ++ bytes
value_bytes (column, Apart entry place size) = to_le_bytes w16 column ++ (1 ∷ to_le_bytes w16 16) ++ (to_le_bytes w64 entry ++ to_le_bytes w32 place ++ to_le_bytes w32 size)

-- a count of the values, and the values
abbrev pub row_bytes : RowFields → List ℕ
row_bytes row = to_le_bytes w16 (length (values_in_order row)) ++ flat_map value_bytes (values_in_order row)

-- some row has these bytes
abbrev pub IsRowBytes : List ℕ → Type 0
IsRowBytes bytes = (row : RowFields) × IsTrue (is_row row) × (bytes ≡ row_bytes row)

-- ---- the record that a row stands for

-- the value that can be read in the row: none of one that is kept apart
abbrev pub bytes_here : RowValue → List ℕ
bytes_here (Here bytes) = bytes
bytes_here (Apart entry place size) = []

-- the record whose values kept apart are empty
abbrev pub here_fields : RowFields → RecordFields
here_fields row = map (λ field. (field.0, map bytes_here field.1)) row

-- the values of a column, none where it is NULL
abbrev pub row_values_of : RowFields → ℕ → List RowValue
row_values_of row column = unwrap_or (lookup_by_number column row) []

-- entry number, place and length of a value that is kept apart
abbrev pub place_apart : RowValue → Option (ℕ × ℕ × ℕ)
place_apart (Here bytes) = None
place_apart (Apart entry place size) = Some (entry, place, size)

-- the same of the column's value at a place, counted from 0
abbrev pub apart_at : RowFields → ℕ → ℕ → Option (ℕ × ℕ × ℕ)
apart_at row column at = elim (slice_get (row_values_of row column) at) [ Some value ↦ place_apart value | None ↦ None ]

-- whether the value stands so in a row: here up to 255 bytes, and apart with its length above them
abbrev pub stands_for : RowValue → List ℕ → Bool
stands_for (Here bytes) value = bytes_eq bytes value && nat_le (length value) 255
stands_for (Apart entry place size) value = nat_lt 255 (length value) && (size == length value)

-- the row that keeps every value of a record
abbrev pub all_here : RecordFields → RowFields
all_here fields = map (λ field. (field.0, map (λ value. Here value) field.1)) fields

-- whether each of the values may stand in a row
abbrev pub are_short : List (List ℕ) → Bool
are_short values = list_all (λ value. nat_le (length value) 255) values

-- whether each value of a record may
abbrev pub is_all_here : RecordFields → Bool
is_all_here fields = list_all (λ field. are_short field.1) fields

-- the values of a record by rising column and in their order, each with its column
abbrev pub record_values_in_order : RecordFields → List (ℕ × List ℕ)
record_values_in_order fields = flat_map (λ field. map (λ value. (field.0, value)) field.1) fields

-- whether the values of a row stand for those of a record, one for one
abbrev pub values_stand_for : List (ℕ × RowValue) → List (ℕ × List ℕ) → Bool
values_stand_for [] [] = true
values_stand_for (x ∷ xs) (value ∷ values) = (x.0 == value.0) && stands_for x.1 value.1 && values_stand_for xs values
values_stand_for [] (value ∷ values) = false
values_stand_for (x ∷ xs) [] = false

-- whether the row is the in-page form of the record
abbrev pub is_row_of : RowFields → RecordFields → Bool
is_row_of row fields = values_stand_for (values_in_order row) (record_values_in_order fields)
