-- Columns that are found by the hashes of their names.
use Rattle.std.specs.Prelude.{◌≡◌, ℕ, ◌+◌, ◌*◌, ◌/◌, ◌^◌, ◌<◌, ◌≤◌, false, List, length, slice_get, slice_index, Some, bytes_eq}
use Rattle.jet_base.specs.ByteHash.{bytes_hash}
use Rattle.column_set.specs.declared.columns.Column.{Column}

-- the bucket of a name among so many
unfoldable pub bucket : ℕ → List ℕ → ℕ
bucket count name = bytes_hash name * count / 2 ^ 64

-- the first place from one on where a column of the bucket stands, or one behind all of them
pub record IsNext (columns : List Column) (own from at : ℕ) : Type 0 where
  pub behind : from ≤ at
  pub there : (column : Column) → slice_get columns at ≡ Some column → bucket (length columns) column.name ≡ own
  pub first : (k : ℕ) (column : Column) → from ≤ k → k < at → slice_get columns k ≡ Some column → bucket (length columns) column.name ≡ own → ⊥

-- where each bucket begins and where it goes on, for the columns from a place on
pub record IsLinkedFrom (columns : List Column) (from : ℕ) (firsts nexts : List ℕ) : Type 0 where
  pub buckets : length firsts ≡ length columns
  pub places : length nexts ≡ length columns
  pub begins : (own : ℕ) → own < length columns → IsNext columns own from (slice_index firsts own)
  pub goes_on : (at : ℕ) (column : Column) → from ≤ at → slice_get columns at ≡ Some column → IsNext columns (bucket (length columns) column.name) (at + 1) (slice_index nexts at)

abbrev pub IsIndex : List Column → List ℕ → List ℕ → Type 0
IsIndex columns firsts nexts = IsLinkedFrom columns 0 firsts nexts

abbrev pub GoesOn : List Column → List ℕ → Type 0
GoesOn columns nexts = (at : ℕ) (column : Column) → slice_get columns at ≡ Some column → IsNext columns (bucket (length columns) column.name) (at + 1) (slice_index nexts at)

-- no column before a place has the name, and one there has its bucket
pub record IsSoughtFrom (columns : List Column) (name : List ℕ) (at : ℕ) : Type 0 where
  pub there : (column : Column) → slice_get columns at ≡ Some column → bucket (length columns) column.name ≡ bucket (length columns) name
  pub passed : (k : ℕ) (column : Column) → k < at → slice_get columns k ≡ Some column → bytes_eq column.name name ≡ false
