-- What a call comes to, and the ways to say it.
use Rattle.std.specs.Prelude.{ℕ, ◌+◌, ◌==◌, Bool, not, nat_le, nat_lt, List, [], ◌∷◌, Option, Some, None, is_none, if◌then◌else◌}
use Rattle.jet_base.specs.declared.replies.Jet.{Jet}
use Rattle.jet_base.specs.declared.replies.Jet.TheVariants as jet
use Rattle.index_derive.specs.declared.entries.Place.{Place}
use Rattle.index_derive.specs.declared.log.Entry.{Entry}
use Rattle.index_derive.specs.declared.log.EntryKind.{EntryKind}
use Rattle.index_derive.specs.declared.log.EntryKind.TheVariants as entry
use Rattle.index_derive.specs.declared.log.Step.{Step}
use Rattle.index_derive.specs.declared.log.Step.TheVariants.{One, Alone}
use Rattle.column_set.specs.declared.changes.Change.{Change}
use Rattle.cursor_nav.specs.Places.{Pair, is_on, place_bookmark}
use Rattle.cursor_nav.specs.Navigation.{Navigated}
use Rattle.column_set.specs.Refusals.{Refusals, first_refusal}
use Rattle.database_state.specs.Table.{Rows, row_at, rows_of, table_with_id, record_in, index_entries}
use Rattle.column_set.specs.ChangedRecords.{changed_table, changed_bookmark}
use Rattle.database_state.specs.State.{DatabaseState, levels}
use Rattle.database_state.specs.View.{view, newest}
use Rattle.database_state.specs.VersionStore.{cost_of, version_span}
use Rattle.database_state.specs.Lawful.{log_limit}
use Rattle.session_local.specs.Answer.{Answered, ShownValue, Nothing}
use Rattle.session_local.specs.Local.{LocalState, OpenCursor, with_cursor, cursor_labelled}

-- A call as it is asked: the limit of the version store's span, the database state, and the session with its own state.
pub record CallInputs : Type 0 where
  pub limit : ℕ
  pub state : DatabaseState
  pub session : ℕ
  pub local : LocalState

-- The reply, the session's own state afterwards, and the step that the log takes, if there is one.
pub record Outcome : Type 0 where
  pub answered : Answered
  pub local : LocalState
  pub step : Option Step

-- ---- ways to answer

-- a reply after which all is as it was
abbrev pub said : CallInputs → Jet → ShownValue → Outcome
said asked reply shown = record { answered = record { jet = reply; shown = shown }; local = asked.local; step = None }

abbrev pub refused : CallInputs → Jet → Outcome
refused asked reply = said asked reply Nothing

-- success, with the session's own state afterwards and a step
abbrev pub done : LocalState → ShownValue → Option Step → Outcome
done local shown step = record { answered = record { jet = jet.Success; shown = shown }; local = local; step = step }

-- what a cursor's call came to
abbrev pub navigated : CallInputs → OpenCursor → Navigated → Outcome
navigated asked open_cursor moved = record {
  answered = record { jet = moved.jet; shown = Nothing };
  local = with_cursor asked.local (record open_cursor { cursor = moved.cursor });
  step = None;
}

-- the first refusal that holds, or else what follows
abbrev pub unless_refused : CallInputs → Option Jet → (Unit {0} → Outcome) → Outcome
unless_refused asked (Some reply) next = refused asked reply
unless_refused asked None next = next tt

abbrev pub unless : CallInputs → Refusals → (Unit {0} → Outcome) → Outcome
unless asked refusals next = unless_refused asked (first_refusal refusals) next

-- the session's cursor of this label
abbrev pub on_cursor : CallInputs → Option OpenCursor → (OpenCursor → Outcome) → Outcome
on_cursor asked None next = refused asked jet.InvalidTableId
on_cursor asked (Some open_cursor) next = next open_cursor

abbrev pub at_cursor : CallInputs → ℕ → (OpenCursor → Outcome) → Outcome
at_cursor asked label next = on_cursor asked (cursor_labelled asked.local label) next

-- ---- steps

abbrev pub entry_of : CallInputs → EntryKind → Entry
entry_of asked kind = record { session = record { 0 = asked.session }; kind = kind }

abbrev pub one : CallInputs → EntryKind → Option Step
one asked kind = Some (One (entry_of asked kind))

-- A change is one entry inside a transaction; outside one it is a begin, the change and a commit.
abbrev pub step_of_change : CallInputs → Change → Option Step
step_of_change asked change =
    if levels asked.state asked.session == 0 then Some (Alone (entry_of asked (entry.Change change))) else one asked (entry.Change change)

-- ---- what the session sees at a cursor

abbrev pub rows_seen : CallInputs → OpenCursor → Rows
rows_seen asked open_cursor = rows_of (table_with_id (view asked.state asked.session) open_cursor.cursor.table)

-- the sorted entries of an index of the cursor's table
abbrev pub entries_seen : CallInputs → OpenCursor → ℕ → List Pair
entries_seen asked open_cursor index = index_entries open_cursor.schema (rows_seen asked open_cursor) index

-- ---- refusals that several calls share

abbrev pub is_outside : CallInputs → Bool
is_outside asked = levels asked.state asked.session == 0

abbrev pub number_refusals : CallInputs → Refusals
number_refusals asked = (nat_le log_limit asked.state.number, jet.LogSequenceEnd) ∷ []

-- the place is an entry, whose record the session sees
abbrev pub current_refusals : Rows → Place → Refusals
current_refusals rows place = (not (is_on place), jet.NoCurrentRecord) ∷ (is_none (row_at rows (place_bookmark place)), jet.RecordDeleted) ∷ []

-- what a change costs comes on top of the version store's span
abbrev pub span_refusals : CallInputs → Change → Refusals
span_refusals asked change =
    let before = record_in (newest asked.state) (changed_table change) (changed_bookmark change) in
    (nat_lt asked.limit (version_span asked.state + cost_of change before), jet.VersionStoreOutOfMemory) ∷ []
