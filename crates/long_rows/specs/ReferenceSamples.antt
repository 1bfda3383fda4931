-- Rows that name long values, for worked examples.
use Rattle.std.specs.Prelude.{ℕ, List, [], ◌∷◌}
use Rattle.column_set.specs.declared.rows.RowValue.TheVariants.{Here, Apart}
use Rattle.column_set.specs.Rows.{RowFields}
use Rattle.long_rows.specs.RowReferences.{identifier}

-- the value that entry 5 made first, of 300 bytes, and the one that it made next
abbrev pub first_id : List ℕ
first_id = identifier 5 0

abbrev pub next_id : List ℕ
next_id = identifier 5 1

-- a row with a number in column 1 and the first value in column 256
abbrev pub naming_first : RowFields
naming_first = (1, Here (7 ∷ []) ∷ []) ∷ (256, Apart 5 0 300 ∷ []) ∷ []

-- a row that names the first value in two columns, and the next one
abbrev pub naming_twice : RowFields
naming_twice = (256, Apart 5 0 300 ∷ []) ∷ (257, Apart 5 1 400 ∷ Apart 5 0 300 ∷ []) ∷ []

-- a row that names no value
abbrev pub naming_none : RowFields
naming_none = (1, Here (8 ∷ []) ∷ []) ∷ []
