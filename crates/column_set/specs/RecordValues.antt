-- The values of a record: how they are read and replaced, how much room they take, and which records a table takes.
use Rattle.std.specs.Prelude.{ℕ, ◌+◌, Bool, false, cond, not, ◌&&◌, ◌||◌, List, [], ◌∷◌, length, ◌==◌, nat_le, nat_lt, Option, Some, None, unwrap_or, sum_by, find, filter, bytes_eq}
use Rattle.std.specs.List.{list_all, list_any}
use Rattle.std.specs.Ordering.{nat_cmp, is_lt, is_le}
use Rattle.std.specs.Cmp.Lexicographic.{slice_cmp}
use Rattle.std.specs.FinMap.Entries.{find as find_entry, put as put_entry}
use Rattle.jet_base.specs.declared.words.ColType.{ColType}
use Rattle.jet_base.specs.declared.words.ColType.TheVariants.{Bit}
use Rattle.jet_base.specs.ColumnType.{fixed_width, largest_value}
use Rattle.jet_base.specs.TypeKinds.{is_long_type}
use Rattle.column_set.specs.declared.columns.Column.{Column}

-- ---- byte strings in order: byte by byte, and a string before those that it begins

abbrev pub bytes_lt : List ℕ → List ℕ → Bool
bytes_lt xs ys = is_lt (slice_cmp nat_cmp xs ys)

abbrev pub bytes_le : List ℕ → List ℕ → Bool
bytes_le xs ys = is_le (slice_cmp nat_cmp xs ys)

-- ---- association lists whose keys rise

-- what stands under the byte string
abbrev pub lookup_by_key : {X : Type 0} → List ℕ → List (List ℕ × X) → Option X
lookup_by_key key entries = find_entry (slice_cmp nat_cmp) key entries

-- x under the byte string, new or in the place of what stood there
abbrev pub put_by_key : {X : Type 0} → List ℕ → X → List (List ℕ × X) → List (List ℕ × X)
put_by_key key x entries = put_entry (slice_cmp nat_cmp) key x entries

-- without what stands under the byte string
abbrev pub remove_by_key : {X : Type 0} → List ℕ → List (List ℕ × X) → List (List ℕ × X)
remove_by_key key entries = filter (λ entry. not (bytes_eq entry.0 key)) entries

-- the same under numbers
abbrev pub lookup_by_number : {X : Type 0} → ℕ → List (ℕ × X) → Option X
lookup_by_number number entries = find_entry nat_cmp number entries

abbrev pub put_by_number : {X : Type 0} → ℕ → X → List (ℕ × X) → List (ℕ × X)
put_by_number number x entries = put_entry nat_cmp number x entries

abbrev pub remove_by_number : {X : Type 0} → ℕ → List (ℕ × X) → List (ℕ × X)
remove_by_number number entries = filter (λ entry. not (entry.0 == number)) entries

-- ---- the values of a record

-- the columns that have a value, by rising number, each with its values in their order
abbrev pub RecordFields : Type 0
RecordFields = List (ℕ × List (List ℕ))

-- the values of a column, none where it is NULL
abbrev pub values_of : RecordFields → ℕ → List (List ℕ)
values_of fields column = unwrap_or (lookup_by_number column fields) []

-- the record with these values in the column; with none the column is NULL
abbrev pub with_values : RecordFields → ℕ → List (List ℕ) → RecordFields
with_values fields column [] = remove_by_number column fields
with_values fields column (value ∷ values) = put_by_number column (value ∷ values) fields

-- whether the column is not NULL
abbrev pub has_value : RecordFields → ℕ → Bool
has_value fields column = nat_lt 0 (length (values_of fields column))

-- the room of a value of so many bytes in its row: a value of more than 255 bytes is kept apart, and its row has 16 bytes that name it
abbrev pub size_of_length : ℕ → ℕ
size_of_length count = cond (nat_lt 255 count) 16 count

abbrev pub size_of_value : List ℕ → ℕ
size_of_value value = size_of_length (length value)

-- the room of values in their row: 5 bytes for each, and its own room
abbrev pub size_of_values : List (List ℕ) → ℕ
size_of_values values = sum_by (λ value. 5 + size_of_value value) values

-- the in-page size of a record: a count of 2 bytes, and the room of the values of each column
abbrev pub record_size : RecordFields → ℕ
record_size fields = 2 + sum_by (λ field. size_of_values field.1) fields

-- ---- the columns of a table

abbrev pub column_named : List Column → List ℕ → Option Column
column_named columns name = find (λ column. bytes_eq column.name name) columns

abbrev pub column_of_id : List Column → ℕ → Option Column
column_of_id columns id = find (λ column. column.id.0 == id) columns

-- whether a stored value is one of the type: of its width, a Bit being 00 or 01, or of its most bytes at most
abbrev pub value_fits : ColType → List ℕ → Bool
value_fits Bit value = bytes_eq value (0 ∷ []) || bytes_eq value (1 ∷ [])
value_fits kind value = elim (fixed_width kind) [ Some width ↦ length value == width | None ↦ nat_le (length value) (largest_value kind) ]

-- whether the column takes the values: one at most where it is not multi-valued, and each of its type
abbrev pub values_fit : Column → List (List ℕ) → Bool
values_fit column values = (column.multi || nat_le (length values) 1) && list_all (value_fits column.kind) values

-- whether values stand under a column that takes them
abbrev pub stands_in : List Column → ℕ × List (List ℕ) → Bool
stands_in columns field = elim (column_of_id columns field.0) [ Some column ↦ values_fit column field.1 | None ↦ false ]

-- the column as a table has it: tagged where its type is long, also where that was not asked
abbrev pub tagged_if_long : Column → Column
tagged_if_long column = record column { tagged = column.tagged || is_long_type column.kind }

-- whether the column's one value is kept by the engine, so that every record has it
abbrev pub is_kept_column : Column → Bool
is_kept_column column = column.escrow || column.version || column.auto

-- whether a table of these columns may hold the record: each value stands under a column that takes it, and each column that the engine keeps has one. A column that must not be NULL may be: it is asked where a record is stored
abbrev pub record_fits : List Column → RecordFields → Bool
record_fits columns fields =
    list_all (stands_in columns) fields
    && list_all (λ column. not (is_kept_column column) || has_value fields column.id.0) columns

-- whether a column that must not be NULL has no value
abbrev pub is_missing_a_value : List Column → RecordFields → Bool
is_missing_a_value columns fields = list_any (λ column. column.not_null && not (has_value fields column.id.0)) columns
