-- What the bytes of a row's values name.
use Rattle.std.specs.Prelude.{ℕ, Bool, false, List, ◌++◌, map, Option, Some, None, bytes_eq}
use Rattle.std.specs.List.{flat_map}
use Rattle.column_set.specs.declared.rows.RowValue.{RowValue}
use Rattle.column_set.specs.declared.rows.RowValue.TheVariants.{Here, Apart}
use Rattle.long_rows.specs.RowReferences.{identifier}
use Rattle.long_rows.specs.KeptRows.{given_by}

-- the identifier that a value names, none where it stands in the row
abbrev pub name_of : RowValue → Option (List ℕ)
name_of (Here bytes) = None
name_of (Apart entry place size) = Some (identifier entry place)

-- whether the identifier is the one that a value names
abbrev pub is_name : List ℕ → Option (List ℕ) → Bool
is_name id None = false
is_name id (Some other) = bytes_eq id other

-- the values that are left of a column, and those of the columns behind it
abbrev pub values_left : List (List ℕ) → List (ℕ × List (List ℕ)) → List (List ℕ)
values_left values fields = values ++ flat_map (λ field. field.1) fields

-- the identifiers that some values of a row name, each once, with these bytes in their places
abbrev pub given_of : List (ℕ × RowValue) → List (List ℕ) → List (List ℕ × List ℕ)
given_of xs values = given_by xs (map (λ value. (0, value)) values)
