-- How many rows, and rows before of changes that are not undone, refer to a long value of a table.
use Rattle.std.specs.Prelude.{◌≡◌, ◌≤◌, ℕ, ◌+◌, Bool, true, false, List, [], ◌∷◌, ◌++◌, fold, Option, Some, None, option_map, unwrap_or, is_some, sum_by, if◌then◌else◌}
use Rattle.std.specs.Ordering.{nat_cmp}
use Rattle.std.specs.Cmp.Lexicographic.{slice_cmp}
use Rattle.std.specs.FinMap.Entries.{is_sorted}
use Rattle.column_set.specs.RecordValues.{lookup_by_key, put_by_key, remove_by_key}
use Rattle.column_set.specs.Rows.{RowFields}
use Rattle.long_value.specs.Values.{LongValue, Values, put_value, value_of, with_reference, without_reference}
use Rattle.long_rows.specs.RowReferences.{identifiers, references}

-- ---- rows and rows before

-- the newest rows of a table by rising bookmark
abbrev pub NewestRows : Type 0
NewestRows = List (List ℕ × RowFields)

abbrev pub AreRows : NewestRows → Type 0
AreRows rows = is_sorted (slice_cmp nat_cmp) rows ≡ true

-- A held change: its bookmark, the row before a put or a drop, none before another change, and whether it is undone.
pub record RowBefore : Type 0 where
  pub bookmark : List ℕ
  pub row : Option RowFields
  pub is_undone : Bool

-- the newest rows where a bookmark has this row, or none
abbrev pub with_row : List ℕ → Option RowFields → NewestRows → NewestRows
with_row bookmark None rows = remove_by_key bookmark rows
with_row bookmark (Some row) rows = put_by_key bookmark row rows

-- the held changes with a put or a drop of a record behind them, which has the row that is newest before it
abbrev pub with_change : List ℕ → NewestRows → List RowBefore → List RowBefore
with_change bookmark rows held = held ++ record { bookmark = bookmark; row = lookup_by_key bookmark rows; is_undone = false } ∷ []

-- a change that is undone
abbrev pub as_undone : RowBefore → RowBefore
as_undone change = record change { is_undone = true }

-- ---- the counts

-- the identifiers that the row before of a change that is not undone names
abbrev pub identifiers_before : RowBefore → List (List ℕ)
identifiers_before change = if change.is_undone then [] else identifiers change.row

abbrev pub references_before : List ℕ → RowBefore → ℕ
references_before id change = if change.is_undone then 0 else references id change.row

-- how many of the newest rows, and of the rows before of changes that are not undone, refer to a value
abbrev pub reference_count : List ℕ → NewestRows → List RowBefore → ℕ
reference_count id rows held = sum_by (λ row. references id (Some row.1)) rows + sum_by (references_before id) held

-- the count of a long value, 0 where it is not there
abbrev pub count_of : List ℕ → Values → ℕ
count_of id values = unwrap_or (option_map (λ (value : LongValue). value.count) (value_of id values)) 0

-- A row names no value that the other does not.
abbrev pub NamesNoOther : Option RowFields → Option RowFields → Type 0
NamesNoOther row other = (id : List ℕ) → references id row ≤ references id other

-- Each long value has as many references as rows, and rows before of changes that are not undone, refer to it.
abbrev pub HasCounts : Values → NewestRows → List RowBefore → Type 0
HasCounts values rows held = (id : List ℕ) → count_of id values ≡ reference_count id rows held

-- ---- values that a row takes and gives up

-- one reference more to a value that is there; one that is not comes with its bytes and one reference
abbrev pub with_taken : Values → List ℕ × List ℕ → Values
with_taken values given = if is_some (value_of given.0 values) then with_reference given.0 values else put_value given.0 (record { count = 1; bytes = given.1 }) values

-- the same of all values that a row names, each with its bytes
abbrev pub with_all_taken : List (List ℕ × List ℕ) → Values → Values
with_all_taken given values = fold with_taken values given

-- one reference less to each value
abbrev pub with_all_released : List (List ℕ) → Values → Values
with_all_released ids values = fold (λ now id. without_reference id now) values ids
