-- Laws of what the engine holds, as the decisions rest on them.
use Rattle.std.specs.Prelude.{◌≡◌, ℕ, List, Some}
use Rattle.column_set.specs.RecordValues.{RecordFields}
use Rattle.database_state.specs.State.{DatabaseState}
use Rattle.database_state.specs.Table.{record_in, row_at}
use Rattle.database_state.specs.View.{newest}
use Rattle.session_local.specs.Local.{LocalState, OpenCursor, cursor_labelled}
use Rattle.session_local.specs.Outcome.{entries_seen, rows_seen}
use Rattle.laws_engine.specs.InStep.{IsInStep}
use Rattle.laws_engine.specs.EngineState.{EngineState}
use Rattle.laws_engine.specs.HoldsState.{HoldsState, inputs_of}
use Rattle.engine_parts.specs.Reading.{IsRowOf, entries_for, record_for, shown_for, unseen_amounts}

-- ---- a session reads its view, at each of its cursors

-- the entries of each index of the cursor's table are those of the view
abbrev pub SeesEntries : Type 0
SeesEntries =
    (engine : EngineState) (state : DatabaseState) (session : ℕ) (local : LocalState) (label : ℕ) (c : OpenCursor) → HoldsState engine state → IsInStep state session local → cursor_labelled local label ≡ Some c
    → (index : ℕ) → entries_for engine session c.cursor.table index ≡ entries_seen (inputs_of engine state session local) c index

-- and so are its records
abbrev pub SeesRecords : Type 0
SeesRecords =
    (engine : EngineState) (state : DatabaseState) (session : ℕ) (local : LocalState) (label : ℕ) (c : OpenCursor) → HoldsState engine state → IsInStep state session local → cursor_labelled local label ≡ Some c
    → (bookmark : List ℕ) → record_for engine session c.cursor.table bookmark ≡ row_at (rows_seen (inputs_of engine state session local) c) bookmark

-- the row that the session is shown tells its record
abbrev pub SeesRows : Type 0
SeesRows =
    (engine : EngineState) (state : DatabaseState) (session : ℕ) (local : LocalState) (label : ℕ) (c : OpenCursor) → HoldsState engine state → IsInStep state session local → cursor_labelled local label ≡ Some c
    → (bookmark : List ℕ) (row seen : RecordFields) → shown_for engine session c.cursor.table bookmark ≡ Some row → record_for engine session c.cursor.table bookmark ≡ Some seen
    → IsRowOf c.schema (unseen_amounts engine session c.cursor.table bookmark) row seen

-- ---- what the tables tell

-- their records are the newest ones
abbrev pub TellsNewest : Type 0
TellsNewest = (engine : EngineState) (state : DatabaseState) → HoldsState engine state → (table : ℕ) (bookmark : List ℕ) → record_in engine.store.tables table bookmark ≡ record_in (newest state) table bookmark
