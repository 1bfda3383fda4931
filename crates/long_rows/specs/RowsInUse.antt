-- The rows of a table that are read.
use Rattle.std.specs.Prelude.{◌≡◌, ℕ, false, List, ◌∷◌, ◌++◌, Some}
use Rattle.column_set.specs.RecordValues.{lookup_by_key}
use Rattle.column_set.specs.Rows.{RowFields}
use Rattle.long_rows.specs.ReferenceCounts.{NewestRows, RowBefore}

-- A row is in use: it is a newest row, or the row before of a change that is not undone.
pub data IsInUse (rows : NewestRows) (held : List RowBefore) (row : RowFields) : Type 0 where
  newest : (bookmark : List ℕ) → lookup_by_key bookmark rows ≡ Some row → IsInUse rows held row
  before : (earlier later : List RowBefore) (change : RowBefore) → held ≡ earlier ++ change ∷ later → change.is_undone ≡ false → change.row ≡ Some row → IsInUse rows held row
