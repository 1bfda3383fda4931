-- The values of a row one after another, and whether they stand under columns that take them.
use Rattle.std.specs.Prelude.{ℕ, ◌==◌, Bool, true, false, not, ◌&&◌, ◌||◌, List, [], ◌∷◌, Option, Some, None, option_copied}
use Rattle.column_set.specs.declared.columns.Column.{Column}
use Rattle.column_set.specs.declared.rows.RowValue.{RowValue}
use Rattle.column_set.specs.declared.rows.RowValue.TheVariants.{Here, Apart}
use Rattle.column_set.specs.RecordValues.{column_of_id, value_fits}
use Rattle.image_contents.specs.declared.rows.fitting.FoundValue.{FoundValue}
use Rattle.jet_base.specs.declared.words.ColType.{ColType}
use Rattle.jet_base.specs.TypeKinds.{is_long_type}

-- a column with the bytes of a value, none of one that is kept apart
abbrev pub Told : Type 0
Told = ℕ × Option (List ℕ)

-- the bytes of a value that stand in its row
abbrev pub here_of : RowValue → Option (List ℕ)
here_of (Here bytes) = Some bytes
here_of (Apart entry place size) = None

abbrev pub told_of : ℕ × RowValue → Told
told_of value = (value.0, here_of value.1)

abbrev pub told_by : FoundValue → Told
told_by found = (found.column, option_copied found.here)

-- whether the column is another than the one of the value before, if there is one
abbrev pub is_another : Option ℕ → ℕ → Bool
is_another None column = true
is_another (Some last) column = not (last == column)

-- whether the value is one of the type; one that is kept apart is one of a long type
abbrev pub is_of_type : ColType → Option (List ℕ) → Bool
is_of_type type None = is_long_type type
is_of_type type (Some bytes) = value_fits type bytes

-- whether a value stands under a column that takes it, besides those before it
abbrev pub value_stands : List Column → Option ℕ → Told → Bool
value_stands columns last value = elim (column_of_id columns value.0) [
  | Some column ↦ (column.multi || is_another last value.0) && is_of_type column.kind value.1
  | None ↦ false
]

-- whether each of some values does, behind a value of the column
abbrev pub values_stand : List Column → Option ℕ → List (ℕ × RowValue) → Bool
values_stand columns last [] = true
values_stand columns last (x ∷ xs) = value_stands columns last (told_of x) && values_stand columns (Some x.0) xs
