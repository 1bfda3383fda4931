-- The numbers in the escrow columns of every record of a history.
use Rattle.std.specs.Prelude.{◌≡◌, ℕ, true, not, ◌||◌, List, IfSome, FitsSigned}
use Rattle.std.specs.Int.{w32}
use Rattle.std.specs.List.{AllByRecursion, list_all}
use Rattle.column_set.specs.declared.changes.Change.{Change}
use Rattle.column_set.specs.declared.changes.Change.TheVariants.{Put, Drop, Hold, Add}
use Rattle.column_set.specs.RecordValues.{RecordFields}
use Rattle.index_derive.specs.declared.log.EntryKind.{EntryKind}
use Rattle.index_derive.specs.declared.log.EntryKind.TheVariants as entry
use Rattle.index_derive.specs.declared.rules.Schema.{Schema}
use Rattle.index_derive.specs.Entries.{is_escrow_column}
use Rattle.database_state.specs.Table.{Table, schema_of, table_with_id}
use Rattle.column_set.specs.ChangedRecords.{changed_table}
use Rattle.database_state.specs.State.{DatabaseState, PastChange}
use Rattle.laws_versions.specs.Records.{Records}
use Rattle.laws_versions.specs.EscrowNumbers.{ColumnsRise, IsOfItsType, holds_number}
use Rattle.laws_versions.specs.EachRecord.{EachRecordHas}

-- No escrow column of the table is multi-valued. An escrow column has a value in every record that fits, since the engine keeps it,
-- and so it has one value, its number. That it is a Long is not needed: a put has the four bytes of the record in whose place it
-- comes, or zeros, and a sum writes four.
abbrev pub HasSingleSums : Table → Type 0
HasSingleSums table = list_all (λ c. not c.escrow || not c.multi) table.columns ≡ true

-- the columns of the record rise, and each escrow column holds one value, the four bytes of a number
abbrev pub HoldsNumbers : ℕ → Schema → List ℕ → RecordFields → Type 0
HoldsNumbers number schema bookmark values = ColumnsRise values × ((column : ℕ) → is_escrow_column schema column ≡ true → holds_number values column ≡ true)

-- what is a sum adds a number of 32 bits to an escrow column
abbrev pub AddsToEscrow : Schema → Change → Type 0
AddsToEscrow schema (Put table bookmark copied values) = Unit {0}
AddsToEscrow schema (Drop table bookmark) = Unit {0}
AddsToEscrow schema (Hold table bookmark) = Unit {0}
AddsToEscrow schema (Add table bookmark column amount) = (is_escrow_column schema column.0 ≡ true) × FitsSigned w32 amount

-- Every record holds numbers in its escrow columns, and every kept sum adds one to such a column.
pub record HasEscrowNumbers (base : Records) (kept : List PastChange) (state : DatabaseState) : Type 0 where
  pub columns : (id : ℕ) → IfSome (table_with_id state.tables id) HasSingleSums
  pub sums : AllByRecursion (λ item. IfSome (table_with_id state.tables (changed_table item.change)) (λ table. AddsToEscrow (schema_of table) item.change)) kept
  pub records : EachRecordHas HoldsNumbers base kept state

-- An entry whose change, if it makes one, is as its type has it. Whether an entry is lawful does not ask this: so what is lawful is
-- wider than the types, by data that no program makes.
abbrev pub HasItsType : EntryKind → Type 0
HasItsType (entry.Change change) = IsOfItsType change
HasItsType _ = Unit {0}
