-- The sums of escrow columns among the kept changes, and what a session sees of a record without those that it does not see.
use Rattle.std.specs.Prelude.{ℕ, ◌+◌, ◌-◌, ◌%◌, ◌^◌, ◌==◌, ℤ, Bool, ◌&&◌, List, [], ◌∷◌, filter, flat_map, fold, map, Option}
use Rattle.std.specs.Int.{w32, from_le_bytes, cast_signed, cast_unsigned}
use Rattle.column_set.specs.declared.changes.Change.{Change}
use Rattle.column_set.specs.declared.changes.Change.TheVariants.{Put, Drop, Hold, Add}
use Rattle.column_set.specs.RecordValues.{RecordFields}
use Rattle.database_state.specs.Changes.{escrow_bytes, with_sum}
use Rattle.database_state.specs.State.{PastChange, Transaction}
use Rattle.laws_versions.specs.Records.{is_change_of}
use Rattle.laws_versions.specs.Readers.{hides, is_unseen, until}

-- ---- sums of a record

-- the sum that a change makes, if it is one: its column, and the amount that is added
abbrev pub sums_by : Change → List (ℕ × ℤ)
sums_by (Put table bookmark copied values) = []
sums_by (Drop table bookmark) = []
sums_by (Hold table bookmark) = []
sums_by (Add table bookmark column amount) = (column.0, amount) ∷ []

-- of the changes of a record that pass, the sums in their order
abbrev pub sums_where : (PastChange → Bool) → ℕ → List ℕ → List PastChange → List (ℕ × ℤ)
sums_where test table bookmark items = flat_map (λ item. sums_by item.change) (filter (λ item. test item && is_change_of table bookmark item.change) items)

abbrev pub with_sums : RecordFields → List (ℕ × ℤ) → RecordFields
with_sums values sums = fold (λ made sum. with_sum made sum.0 sum.1) values sums

abbrev pub amounts_to : ℕ → List (ℕ × ℤ) → List ℤ
amounts_to column sums = map (λ sum. sum.1) (filter (λ sum. sum.0 == column) sums)

-- The sums of a record that a session does not see and that stand before the oldest put or drop of it that the session does not
-- see: the record which it finds has them, the one that it sees does not.
abbrev pub unseen_sums : ℕ → Option Transaction → ℕ → List ℕ → List PastChange → List (ℕ × ℤ)
unseen_sums session transaction table bookmark kept = sums_where (is_unseen session transaction) table bookmark (until (hides session transaction table bookmark) kept)

-- ---- the number in an escrow column

-- the number that an escrow column holds in a record: its bytes lowest first, in two's complement of 32 bits
abbrev pub escrow_value : RecordFields → ℕ → ℤ
escrow_value values column = cast_signed w32 (from_le_bytes w32 (escrow_bytes values column) % 2 ^ 32)

-- the number without an amount that was added to it, wrapping at 32 bits
abbrev pub without_amount : ℤ → ℤ → ℤ
without_amount stored amount = cast_signed w32 ((cast_unsigned w32 stored + (2 ^ 32 - cast_unsigned w32 amount % 2 ^ 32)) % 2 ^ 32)

-- The number that a session sees: the stored one without the amounts that it does not see.
abbrev pub seen_value : ℤ → List ℤ → ℤ
seen_value stored amounts = fold without_amount stored amounts
