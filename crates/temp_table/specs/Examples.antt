-- Tables of the worked examples.
use Rattle.std.specs.Prelude.{ℕ, true, false, List, [], ◌∷◌, fold, replicate, Option, Some}
use Rattle.jet_base.specs.declared.words.ColType.{ColType}
use Rattle.jet_base.specs.declared.words.ColType.TheVariants.{Long, Text}
use Rattle.jet_base.specs.declared.words.Way.{Way}
use Rattle.temp_table.specs.declared.columns.TempColumn.{TempColumn}
use Rattle.temp_table.specs.TempColumns.{RowValues}
use Rattle.temp_table.specs.TempRows.{TempRows, current_value, moved, opened, put_row}

abbrev pub rising : ColType → TempColumn
rising kind = record { kind = kind; is_key = true; descending = false }

abbrev pub falling : ColType → TempColumn
falling kind = record { kind = kind; is_key = true; descending = true }

abbrev pub plain : ColType → TempColumn
plain kind = record { kind = kind; is_key = false; descending = false }

-- a value of one byte, and a number below 256 as a Long
abbrev pub letter : ℕ → Option (List ℕ)
letter byte = Some (byte ∷ [])

abbrev pub number : ℕ → Option (List ℕ)
number n = Some (n ∷ 0 ∷ 0 ∷ 0 ∷ [])

-- the table after all of these rows were put, and what it reads in a column after all of these moves
abbrev pub with_rows : TempRows → List RowValues → TempRows
with_rows table rows = fold put_row table rows

abbrev pub read_after : TempRows → List Way → ℕ → Option (List ℕ)
read_after table ways column = current_value (fold moved table ways) column

-- a number, the greater the earlier, and a letter beside it
abbrev pub ordered : TempRows
ordered = with_rows (opened (falling Long ∷ plain Text ∷ []) false)
    ((number 1 ∷ letter 97 ∷ []) ∷ (number 2 ∷ letter 98 ∷ []) ∷ (number 2 ∷ letter 99 ∷ []) ∷ [])

-- texts that differ in more than the case of their letters
abbrev pub texts : TempRows
texts = opened (rising Text ∷ []) true

abbrev pub letters : ℕ → Option (List ℕ)
letters count = Some (replicate count 97)

-- six texts of 255 bytes, and one more: 1,567 bytes beside the last one's own
abbrev pub large_row : ℕ → RowValues
large_row count = letters 255 ∷ letters 255 ∷ letters 255 ∷ letters 255 ∷ letters 255 ∷ letters 255 ∷ letters count ∷ []
