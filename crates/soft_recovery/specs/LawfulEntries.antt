-- What decides whether an entry may come next, by what the engine holds.
use Rattle.std.specs.Prelude.{◌≡◌, ◌+◌, ◌==◌, ℕ, Bool, true, false, not, ◌&&◌, length, List, Option, Some, is_none, is_some, nat_le, nat_lt}
use Rattle.column_set.specs.RecordValues.{RecordFields, is_missing_a_value, record_fits, record_size}
use Rattle.column_set.specs.Refusals.{first_refusal}
use Rattle.index_derive.specs.declared.log.EntryKind.{EntryKind}
use Rattle.index_derive.specs.declared.log.EntryKind.TheVariants as entry
use Rattle.index_derive.specs.declared.rules.Schema.{Schema}
use Rattle.index_derive.specs.Schemas.{primary_rule}
use Rattle.database_state.specs.Lawful.{has_free_keys, is_bookmark_of, is_copied_in, is_indexable, is_lawful_kind, keeps_escrow}
use Rattle.database_state.specs.State.{DatabaseState}
use Rattle.database_state.specs.Table.{Rows, row_at, rows_of, table_with_id}
use Rattle.database_state.specs.View.{view}
use Rattle.version_cleanup.specs.LiveSessions.{has_open_in, is_live, levels_in}
use Rattle.laws_engine.specs.EngineState.{EngineState}
use Rattle.laws_engine.specs.HoldsState.{HoldsState}
use Rattle.record_decisions.specs.Updating.{IsSchemaOf, keys_in}

-- ---- the states that an engine holds

-- the engine holds a state
pub record HoldsSome (engine : EngineState) : Type 0 where
  pub state : DatabaseState
  pub holds : HoldsState engine state

-- the answer is that of the test in every state that the engine holds
abbrev pub IsTold : EngineState → (DatabaseState → Bool) → Bool → Type 0
IsTold engine test answer = (state : DatabaseState) → HoldsState engine state → answer ≡ test state

-- ---- entries of sessions

-- neither a change of a record nor a schema step
abbrev pub is_of_session : EntryKind → Bool
is_of_session (entry.Change change) = false
is_of_session (entry.Schema made) = false
is_of_session _ = true

-- whether the session may make such an entry
abbrev pub may_come : EngineState → ℕ → EntryKind → Bool
may_come engine session entry.Enter = not (is_live session engine.sessions) && nat_lt (length engine.sessions) 64
may_come engine session entry.Leave = is_live session engine.sessions
may_come engine session (entry.Open table) = is_live session engine.sessions && is_some (table_with_id engine.store.tables table.0)
may_come engine session (entry.Shut table) = has_open_in session table.0 engine.sessions
may_come engine session entry.Begin = is_live session engine.sessions && (levels_in session engine.sessions == 0)
may_come engine session entry.Save = nat_le 1 (levels_in session engine.sessions) && nat_le (levels_in session engine.sessions) 6
may_come engine session entry.Release = nat_le 2 (levels_in session engine.sessions)
may_come engine session entry.Undo = nat_le 1 (levels_in session engine.sessions)
may_come engine session entry.UndoAll = nat_le 1 (levels_in session engine.sessions)
may_come engine session entry.Commit = levels_in session engine.sessions == 1
may_come engine session (entry.Change change) = false
may_come engine session (entry.Schema made) = false

-- ---- puts

-- the records of a table in a session's view
abbrev pub rows_in : DatabaseState → ℕ → ℕ → Rows
rows_in state session table = rows_of (table_with_id (view state session) table)

-- what the record alone tells: it fits the columns, lacks no value that must be there, and has room
abbrev pub is_storable_in : Schema → RecordFields → Bool
is_storable_in schema values = record_fits schema.columns values && not (is_missing_a_value schema.columns values) && nat_le (record_size values) 1700

-- what its place asks: free keys, its bookmark, the sums there, and the record that it was copied from
abbrev pub is_placed_in : DatabaseState → ℕ → ℕ → Schema → List ℕ → Option (List ℕ) → RecordFields → Bool
is_placed_in state session table schema bookmark copied values =
    has_free_keys state session table schema (rows_in state session table) bookmark values
    && is_bookmark_of (state.number + 1) schema (rows_in state session table) (primary_rule schema) bookmark values
    && keeps_escrow schema.columns (row_at (rows_in state session table) bookmark) values
    && is_copied_in (rows_in state session table) copied

abbrev pub is_lawful_put_in : DatabaseState → ℕ → ℕ → Schema → List ℕ → Option (List ℕ) → RecordFields → Bool
is_lawful_put_in state session table schema bookmark copied values =
    is_storable_in schema values && (is_indexable schema values && is_placed_in state session table schema bookmark copied values)

-- ---- laws of what the engine holds

-- the live sessions tell which of their entries are lawful
abbrev pub TellsEntries : Type 0
TellsEntries = (engine : EngineState) (state : DatabaseState) → HoldsState engine state → (session : ℕ) (kind : EntryKind) → is_of_session kind ≡ true → may_come engine session kind ≡ is_lawful_kind state session kind

-- the unique indexes refuse no key exactly where the new keys are free
abbrev pub HasFreeNewKeys : Type 0
HasFreeNewKeys =
    (engine : EngineState) (state : DatabaseState) → HoldsState engine state → (session table : ℕ) (schema : Schema) → IsSchemaOf engine table schema → (bookmark : List ℕ) (values : RecordFields)
    → is_none (first_refusal (keys_in engine session table schema (Some bookmark) values)) ≡ has_free_keys state session table schema (rows_in state session table) bookmark values
