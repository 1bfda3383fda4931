-- What a change does to tables.
use Rattle.std.specs.Prelude.{ℕ, ◌+◌, ◌%◌, ◌^◌, Bool, true, false, ℤ, List, [], ◌∷◌, Option, Some, None, fold, slice_get, unwrap_or}
use Rattle.std.specs.Int.{w32, to_le_bytes, from_le_bytes, cast_unsigned}
use Rattle.column_set.specs.declared.changes.Change.{Change}
use Rattle.column_set.specs.declared.changes.Change.TheVariants.{Put, Drop, Hold, Add}
use Rattle.column_set.specs.ChangedRecords.{changed_table, changed_bookmark}
use Rattle.column_set.specs.RecordValues.{RecordFields, values_of, with_values}
use Rattle.database_state.specs.Table.{Table, Rows, row_at, with_row, without_row, with_table}

-- a put without the bookmark that it was copied from
abbrev pub without_copied : Change → Change
without_copied (Put table bookmark copied values) = Put table bookmark None values
without_copied (Drop table bookmark) = Drop table bookmark
without_copied (Hold table bookmark) = Hold table bookmark
without_copied (Add table bookmark column amount) = Add table bookmark column amount

abbrev pub is_sum : Change → Bool
is_sum (Put table bookmark copied values) = false
is_sum (Drop table bookmark) = false
is_sum (Hold table bookmark) = false
is_sum (Add table bookmark column amount) = true

-- The four bytes of an escrow column after a sum: little-endian, two's complement, wrapping at 32 bits.
abbrev pub escrow_sum : List ℕ → ℤ → List ℕ
escrow_sum stored amount = to_le_bytes w32 ((from_le_bytes w32 stored + cast_unsigned w32 amount) % 2 ^ 32)

-- the four bytes that an escrow column holds in a record
abbrev pub escrow_bytes : RecordFields → ℕ → List ℕ
escrow_bytes values column = unwrap_or (slice_get (values_of values column) 0) (0 ∷ 0 ∷ 0 ∷ 0 ∷ [])

abbrev pub with_sum : RecordFields → ℕ → ℤ → RecordFields
with_sum values column amount = with_values values column (escrow_sum (escrow_bytes values column) amount ∷ [])

abbrev pub rows_with_sum : Rows → List ℕ → Option RecordFields → ℕ → ℤ → Rows
rows_with_sum rows bookmark None column amount = rows
rows_with_sum rows bookmark (Some values) column amount = with_row rows bookmark (with_sum values column amount)

-- A put sets the record, a drop removes it, a sum adds to its column, and a lock changes nothing.
abbrev pub rows_after : Rows → Change → Rows
rows_after rows (Put table bookmark copied values) = with_row rows bookmark values
rows_after rows (Drop table bookmark) = without_row rows bookmark
rows_after rows (Hold table bookmark) = rows
rows_after rows (Add table bookmark column amount) = rows_with_sum rows bookmark (row_at rows bookmark) column.0 amount

abbrev pub tables_after : List Table → Change → List Table
tables_after tables change = with_table (changed_table change) (λ table. record table { rows = rows_after table.rows change }) tables

abbrev pub tables_after_all : List Table → List Change → List Table
tables_after_all tables changes = fold tables_after tables changes
