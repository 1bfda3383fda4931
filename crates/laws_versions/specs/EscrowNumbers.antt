-- Records whose escrow columns hold numbers, and changes as their types have them.
use Rattle.std.specs.Prelude.{ℕ, ◌==◌, Bool, false, ◌&&◌, T, nat_lt, length, List, [], ◌∷◌, FitsSigned}
use Rattle.std.specs.Int.{w32}
use Rattle.std.specs.List.{list_all}
use Rattle.std.specs.Ordering.{nat_cmp}
use Rattle.std.specs.FinMap.Entries.{is_sorted}
use Rattle.column_set.specs.declared.changes.Change.{Change}
use Rattle.column_set.specs.declared.changes.Change.TheVariants.{Put, Drop, Hold, Add}
use Rattle.column_set.specs.RecordValues.{RecordFields, values_of}

-- four bytes
abbrev pub is_number : List ℕ → Bool
is_number bytes = (length bytes == 4) && list_all (λ b. nat_lt b 256) bytes

-- one value, of four bytes
abbrev pub is_one_number : List (List ℕ) → Bool
is_one_number [] = false
is_one_number (value ∷ []) = is_number value
is_one_number (value ∷ next ∷ values) = false

-- whether a column of the record holds one value, the four bytes of a number
abbrev pub holds_number : RecordFields → ℕ → Bool
holds_number values column = is_one_number (values_of values column)

-- the numbers of the record's columns rise
abbrev pub ColumnsRise : RecordFields → Type 0
ColumnsRise values = T (is_sorted nat_cmp values)

-- A change as its type has it: the columns of a record that is put rise, and the amount of a sum is a number of 32 bits.
abbrev pub IsOfItsType : Change → Type 0
IsOfItsType (Put table bookmark copied values) = ColumnsRise values
IsOfItsType (Drop table bookmark) = Unit {0}
IsOfItsType (Hold table bookmark) = Unit {0}
IsOfItsType (Add table bookmark column amount) = FitsSigned w32 amount
