-- Rows, records and long values for worked examples.
use Rattle.std.specs.Prelude.{ℕ, List, [], ◌∷◌, replicate}
use Rattle.column_set.specs.declared.rows.RowValue.TheVariants.{Here, Apart}
use Rattle.column_set.specs.RecordValues.{RecordFields}
use Rattle.column_set.specs.Rows.{RowFields}
use Rattle.long_value.specs.Values.{LongValue, Values}
use Rattle.long_rows.specs.RowReferences.{identifier}
use Rattle.long_rows.specs.KeptRows.{Found}

abbrev pub longest_here : List ℕ
longest_here = replicate 255 97

abbrev pub shortest_apart : List ℕ
shortest_apart = replicate 256 97

abbrev pub other_apart : List ℕ
other_apart = replicate 256 98

-- a record with a number in column 1, and in column 256 a value that is kept apart
abbrev pub first_record : RecordFields
first_record = (1, (7 ∷ []) ∷ []) ∷ (256, shortest_apart ∷ []) ∷ []

-- its row, which names the first value that entry 5 made
abbrev pub first_row : RowFields
first_row = (1, Here (7 ∷ []) ∷ []) ∷ (256, Apart 5 0 256 ∷ []) ∷ []

abbrev pub one_of : ℕ → List ℕ → LongValue
one_of count bytes = record { count = count; bytes = bytes }

abbrev pub first_values : Values
first_values = (identifier 5 0, one_of 1 shortest_apart) ∷ []

-- what entry 5 found: no value, and no row
abbrev pub nothing_before : Found
nothing_before = record { values = []; rows = []; number = 5 }

-- what entry 9 finds, with the row that entry 5 made before it
abbrev pub first_before : Found
first_before = record { values = first_values; rows = first_row ∷ []; number = 9 }

-- the same where the value has as many references as it may
abbrev pub full_before : Found
full_before = record { values = (identifier 5 0, one_of 4294967295 shortest_apart) ∷ []; rows = first_row ∷ []; number = 9 }
