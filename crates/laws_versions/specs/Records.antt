-- The records of a database by table and bookmark, and what changes do to them.
use Rattle.std.specs.Prelude.{◌≡◌, ℕ, ◌==◌, Bool, true, ◌&&◌, List, filter, fold, Option, Some, None, option_map, is_some, if◌then◌else◌, bytes_eq}
use Rattle.column_set.specs.declared.changes.Change.{Change}
use Rattle.column_set.specs.declared.changes.Change.TheVariants.{Put, Drop, Hold, Add}
use Rattle.column_set.specs.RecordValues.{RecordFields}
use Rattle.database_state.specs.Table.{Table, record_in, table_with_id}
use Rattle.database_state.specs.Changes.{with_sum}
use Rattle.column_set.specs.ChangedRecords.{changed_table, changed_bookmark}
use Rattle.database_state.specs.State.{PastChange}

-- The record, if any, of each table under each bookmark. Two databases of equal records are equal as functions, in whatever
-- order their lists were made.
abbrev pub Records : Type 0
Records = ℕ → List ℕ → Option RecordFields

abbrev pub records_of : List Table → Records
records_of tables table bookmark = record_in tables table bookmark

-- what a change makes of its record
abbrev pub record_after : Change → Option RecordFields → Option RecordFields
record_after (Put table bookmark copied values) seen = Some values
record_after (Drop table bookmark) seen = None
record_after (Hold table bookmark) seen = seen
record_after (Add table bookmark column amount) seen = option_map (λ values. with_sum values column.0 amount) seen

abbrev pub is_change_of : ℕ → List ℕ → Change → Bool
is_change_of table bookmark change = (changed_table change == table) && bytes_eq (changed_bookmark change) bookmark

abbrev pub records_after : Records → Change → Records
records_after records change table bookmark = if is_change_of table bookmark change then record_after change (records table bookmark) else records table bookmark

-- the table of the change is there
abbrev pub IsThere : List Table → Change → Type 0
IsThere tables change = is_some (table_with_id tables (changed_table change)) ≡ true

-- ---- changes of the past

abbrev pub after_item : Records → PastChange → Records
after_item records item = records_after records item.change

-- the records after those of the past changes that pass the test, made in their order
abbrev pub records_after_items : (PastChange → Bool) → Records → List PastChange → Records
records_after_items test records items = fold after_item records (filter test items)
