-- Equivalent database states: those of one essence. Such states differ in nothing but past changes older than the oldest
-- needed one, the records of undone changes, as long as their costs are the same, and escrow values in the records of sums.
use Rattle.std.specs.Prelude.{◌≡◌, ℕ, List, [], map, Option, Some, None, option_map, if◌then◌else◌, fold, filter}
use Rattle.column_set.specs.declared.columns.Column.{Column}
use Rattle.column_set.specs.declared.changes.Change.{Change}
use Rattle.column_set.specs.declared.changes.Change.TheVariants.{Put, Drop, Hold, Add}
use Rattle.column_set.specs.RecordValues.{RecordFields, with_values}
use Rattle.database_state.specs.Table.{Table, table_with_id}
use Rattle.database_state.specs.Changes.{is_sum}
use Rattle.column_set.specs.ChangedRecords.{changed_table}
use Rattle.database_state.specs.State.{DatabaseState, LiveSession, PastChange, is_undone}
use Rattle.database_state.specs.VersionStore.{from_oldest_needed, cost_of}

-- ---- the essence of a past change

-- a past change without what is forgotten of it, and its cost
pub record EssentialChange : Type 0 where
  pub item : PastChange
  pub cost : ℕ

-- a put without its record
abbrev pub without_record : Change → Change
without_record (Put table bookmark copied values) = Put table bookmark copied []
without_record (Drop table bookmark) = Drop table bookmark
without_record (Hold table bookmark) = Hold table bookmark
without_record (Add table bookmark column amount) = Add table bookmark column amount

abbrev pub without_sums : List Column → RecordFields → RecordFields
without_sums columns values = fold (λ left column. with_values left column.id.0 []) values (filter (λ c. c.escrow) columns)

abbrev pub columns_of : Option Table → List Column
columns_of None = []
columns_of (Some table) = table.columns

-- An undone change keeps none of its records, and a sum keeps its records but for their escrow values.
abbrev pub essential_item : List Column → PastChange → PastChange
essential_item columns item =
    if is_undone item.status then record item { change = without_record item.change; before = None; after = None }
    else if is_sum item.change then record item { before = option_map (without_sums columns) item.before; after = option_map (without_sums columns) item.after }
    else item

abbrev pub essential_change : List Table → PastChange → EssentialChange
essential_change tables item = record {
  item = essential_item (columns_of (table_with_id tables (changed_table item.change))) item;
  cost = cost_of item.change item.before;
}

-- ---- the essence of a state

-- what a state is but for what may be forgotten: of the past the changes from the oldest needed one on
pub record Essence : Type 0 where
  pub number : ℕ
  pub greatest_table : ℕ
  pub tables : List Table
  pub sessions : List LiveSession
  pub past : List EssentialChange

abbrev pub essence : DatabaseState → Essence
essence state = record {
  number = state.number;
  greatest_table = state.greatest_table;
  tables = state.tables;
  sessions = state.sessions;
  past = map (essential_change state.tables) (from_oldest_needed state.sessions state.past);
}

-- Two states are equivalent where their essences are equal.
abbrev pub AreEquivalent : DatabaseState → DatabaseState → Type 0
AreEquivalent one other = essence one ≡ essence other
