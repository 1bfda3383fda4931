-- The row that a put makes of a record, and the long values that it takes.
use Rattle.std.specs.Prelude.{◌≡◌, ℕ, suc, ◌<◌, ◌≤◌, ◌^◌, Bool, false, ◌&&◌, List, [], ◌∷◌, length, Option, Some, None, IsTrue, nat_le, nat_lt, if◌then◌else◌, bytes_eq}
use Rattle.std.specs.List.{list_all, list_any}
use Rattle.column_set.specs.declared.rows.RowValue.{RowValue}
use Rattle.column_set.specs.declared.rows.RowValue.TheVariants.{Here, Apart}
use Rattle.column_set.specs.Record.{is_record}
use Rattle.column_set.specs.RecordValues.{RecordFields, record_size}
use Rattle.column_set.specs.Rows.{RowFields, apart_at, is_row, largest_row, record_values_in_order, values_in_order}
use Rattle.long_value.specs.Values.{LongValue, Values, value_of}
use Rattle.long_rows.specs.RowReferences.{identifier}

-- What a put finds: the long values of the table, the rows whose values may be shared, in the order in which they are tried, and the number of its log entry. The rows are the row before, if there is one, and the row of the record that was copied, if one was.
pub record Found : Type 0 where
  pub values : Values
  pub rows : List RowFields
  pub number : ℕ

-- ---- sharing

-- the most references that a value has: one that has as many is not shared
abbrev pub most_references : ℕ
most_references = 4294967295

-- whether a long value is there that has these bytes and takes one reference more
abbrev pub may_share : List ℕ → Option LongValue → Bool
may_share bytes None = false
may_share bytes (Some value) = bytes_eq value.bytes bytes && nat_lt value.count most_references

-- the entry and the place of a value that is kept apart, where it may be shared
abbrev pub shared_one : Values → List ℕ → Option (ℕ × ℕ × ℕ) → Option (ℕ × ℕ)
shared_one values bytes None = None
shared_one values bytes (Some there) = if may_share bytes (value_of (identifier there.0 there.1) values) then Some (there.0, there.1) else None

-- the first, and the second where there is none
abbrev pub or_else : Option (ℕ × ℕ) → Option (ℕ × ℕ) → Option (ℕ × ℕ)
or_else None second = second
or_else (Some id) second = Some id

-- the first of the values under the same column and sequence of some rows that may be shared
abbrev pub shared_in : Values → List RowFields → ℕ → ℕ → List ℕ → Option (ℕ × ℕ)
shared_in values [] column at bytes = None
shared_in values (row ∷ rows) column at bytes = or_else (shared_one values bytes (apart_at row column at)) (shared_in values rows column at bytes)

abbrev pub shared : Found → ℕ → ℕ → List ℕ → Option (ℕ × ℕ)
shared found column at bytes = shared_in found.values found.rows column at bytes

-- ---- the row

-- a value of more than 255 bytes is kept apart
abbrev pub is_long : List ℕ → Bool
is_long bytes = nat_lt 255 (length bytes)

-- a value that is kept apart: as the one that is shared, or as a new one under the entry's number and the next place
abbrev pub value_apart : Option (ℕ × ℕ) → ℕ → ℕ → ℕ → RowValue
value_apart None number place size = Apart number place size
value_apart (Some id) number place size = Apart id.0 id.1 size

abbrev pub place_behind : Option (ℕ × ℕ) → ℕ → ℕ
place_behind None place = suc place
place_behind (Some id) place = place

-- how a value is kept that stands under a column and a sequence, both of the record and of the rows whose values may be shared
abbrev pub kept_value : Found → ℕ → ℕ → ℕ → List ℕ → RowValue
kept_value found column at place bytes = if is_long bytes then value_apart (shared found column at bytes) found.number place (length bytes) else Here bytes

-- the place in the entry that the next new value gets
abbrev pub next_place : Found → ℕ → ℕ → ℕ → List ℕ → ℕ
next_place found column at place bytes = if is_long bytes then place_behind (shared found column at bytes) place else place

-- how the values of a column are kept from a sequence on
abbrev pub kept_values : Found → ℕ → ℕ → ℕ → List (List ℕ) → List RowValue
kept_values found column at place [] = []
kept_values found column at place (bytes ∷ rest) = kept_value found column at place bytes ∷ kept_values found column (suc at) (next_place found column at place bytes) rest

abbrev pub place_after : Found → ℕ → ℕ → ℕ → List (List ℕ) → ℕ
place_after found column at place [] = place
place_after found column at place (bytes ∷ rest) = place_after found column (suc at) (next_place found column at place bytes) rest

-- how the values of all columns are kept, the first new one under this place
abbrev pub kept_fields : Found → ℕ → RecordFields → RowFields
kept_fields found place [] = []
kept_fields found place (field ∷ fields) = (field.0, kept_values found field.0 0 place field.1) ∷ kept_fields found (place_after found field.0 0 place field.1) fields

-- the row that a put makes of a record: its new values have the places from 0 on
abbrev pub kept_row : Found → RecordFields → RowFields
kept_row found fields = kept_fields found 0 fields

-- ---- the values that a row takes

-- some identifiers with their bytes, and one more, unless it is among them
abbrev pub with_given : List ℕ → List ℕ → List (List ℕ × List ℕ) → List (List ℕ × List ℕ)
with_given id bytes given = if list_any (λ (one : List ℕ × List ℕ). bytes_eq id one.0) given then given else (id, bytes) ∷ given

abbrev pub with_value_given : RowValue → List ℕ → List (List ℕ × List ℕ) → List (List ℕ × List ℕ)
with_value_given (Here own) bytes given = given
with_value_given (Apart entry place size) bytes given = with_given (identifier entry place) bytes given

-- the identifiers that the values of a row name, each once, with the bytes that a record has in their places
abbrev pub given_by : List (ℕ × RowValue) → List (ℕ × List ℕ) → List (List ℕ × List ℕ)
given_by [] values = []
given_by (x ∷ xs) [] = []
given_by (x ∷ xs) (value ∷ values) = with_value_given x.1 value.1 (given_by xs values)

abbrev pub given_values : RowFields → RecordFields → List (List ℕ × List ℕ)
given_values row fields = given_by (values_in_order row) (record_values_in_order fields)

-- ---- what a put asks

-- A value with its bytes may be taken: one that is there has these bytes and takes one reference more, and one that is not there has 256 to 1,048,576.
abbrev pub Takes : List ℕ → Option LongValue → Type 0
Takes bytes None = (256 ≤ length bytes) × (length bytes ≤ 1048576)
Takes bytes (Some value) = (value.bytes ≡ bytes) × (value.count < most_references)

abbrev pub MayTake : Values → List ℕ × List ℕ → Type 0
MayTake values given = Takes given.1 (value_of given.0 values)

-- whether each value of a record has at most 1,048,576 bytes
abbrev pub are_values : List (List ℕ) → Bool
are_values values = list_all (λ value. nat_le (length value) 1048576) values

-- A put may make a row of the record: the row fits its page, and no value of the table has the number of the put's entry.
pub record MayKeep (found : Found) (fields : RecordFields) : Type 0 where
  pub formed : IsTrue (is_record fields)
  pub columns : IsTrue (list_all (λ field. nat_lt field.0 (2 ^ 16)) fields)
  pub short : IsTrue (list_all (λ field. are_values field.1) fields)
  pub small : record_size fields ≤ largest_row
  pub number : found.number < 2 ^ 64
  pub rows : IsTrue (list_all is_row found.rows)
  pub fresh : (place : ℕ) → place < 2 ^ 32 → value_of (identifier found.number place) found.values ≡ None
