-- Why the engine refuses a change of a record, by what it holds.
use Rattle.std.specs.Prelude.{ℕ, ◌+◌, ◌==◌, Bool, true, false, not, nat_le, nat_lt, [], ◌∷◌, ◌++◌, ◌≡◌, is_none}
use Rattle.jet_base.specs.declared.replies.Jet.TheVariants as jet
use Rattle.column_set.specs.declared.changes.Change.{Change}
use Rattle.index_derive.specs.declared.log.Entry.{Entry}
use Rattle.index_derive.specs.declared.log.Step.{Step}
use Rattle.index_derive.specs.declared.log.Step.TheVariants.{One, Alone}
use Rattle.column_set.specs.Refusals.{Refusals}
use Rattle.database_state.specs.Table.{record_in}
use Rattle.column_set.specs.ChangedRecords.{changed_table, changed_bookmark}
use Rattle.database_state.specs.VersionStore.{cost_of, version_span}
use Rattle.database_state.specs.Conflicts.{has_write_conflict}
use Rattle.database_state.specs.State.{DatabaseState}
use Rattle.database_state.specs.View.{newest}
use Rattle.database_state.specs.Lawful.{log_limit}
use Rattle.session_local.specs.Local.{LocalState, OpenCursor, has_replace_of}
use Rattle.cursor_nav.specs.Places.{is_on, place_bookmark}
use Rattle.session_local.specs.RecordCalls.{bookmark_at, drop_at, hold_at}
use Rattle.version_cleanup.specs.Cleaning.{reader_in}
use Rattle.version_cleanup.specs.LiveSessions.{levels_in, oldest_begin}
use Rattle.laws_engine.specs.HeldRecords.{has_conflict, span}
use Rattle.laws_engine.specs.EngineState.{EngineState}
use Rattle.laws_engine.specs.HoldsState.{HoldsState}
use Rattle.engine_parts.specs.Reading.{record_for, shown_for}

abbrev pub is_outside_in : EngineState → ℕ → Bool
is_outside_in engine session = levels_in session engine.sessions == 0

-- the span of the version store with a change more
abbrev pub span_with : EngineState → Change → ℕ
span_with engine made = span (oldest_begin engine.sessions) engine.store.held + cost_of made (record_in engine.store.tables (changed_table made) (changed_bookmark made))

-- ---- refusals that several calls share

abbrev pub outside_in : EngineState → ℕ → Refusals
outside_in engine session = (is_outside_in engine session, jet.NotInTransaction) ∷ []

-- the cursor is on an entry, whose record the session sees: it is shown its row
abbrev pub current_in : EngineState → ℕ → OpenCursor → Refusals
current_in engine session c =
    (not (is_on c.cursor.place), jet.NoCurrentRecord)
    ∷ (is_none (shown_for engine session c.cursor.table (place_bookmark c.cursor.place)), jet.RecordDeleted) ∷ []

-- the session has a replace of the record prepared
abbrev pub own_in : LocalState → OpenCursor → Refusals
own_in local c = (has_replace_of local c.cursor.table (bookmark_at c), jet.SessionWriteConflict) ∷ []

abbrev pub conflict_in : EngineState → ℕ → Change → Refusals
conflict_in engine session made = (has_conflict (reader_in session engine.sessions) made engine.store.held, jet.WriteConflict) ∷ []

abbrev pub room_in : EngineState → Change → Refusals
room_in engine made = (nat_le log_limit engine.number, jet.LogSequenceEnd) ∷ (nat_lt engine.limit (span_with engine made), jet.VersionStoreOutOfMemory) ∷ []

abbrev pub change_in : EngineState → ℕ → Change → Refusals
change_in engine session made = conflict_in engine session made ++ room_in engine made

-- ---- the refusals of a call

abbrev pub lock_in : EngineState → ℕ → OpenCursor → Refusals
lock_in engine session c = outside_in engine session ++ current_in engine session c ++ change_in engine session (hold_at c)

abbrev pub delete_in : EngineState → ℕ → LocalState → OpenCursor → Refusals
delete_in engine session local c = current_in engine session c ++ own_in local c ++ change_in engine session (drop_at c)

-- ---- steps

-- an entry alone, or inside a transaction
abbrev pub step_by : Bool → Entry → Step
step_by true made = Alone made
step_by false made = One made

-- ---- what the definitions ask of a state that the engine holds

abbrev pub TellsConflicts : Type 0
TellsConflicts =
    (engine : EngineState) (state : DatabaseState) → HoldsState engine state → (session : ℕ) (made : Change) → has_conflict (reader_in session engine.sessions) made engine.store.held ≡ has_write_conflict state session made

abbrev pub TellsRoom : Type 0
TellsRoom =
    (engine : EngineState) (state : DatabaseState) → HoldsState engine state → (made : Change)
    → span_with engine made ≡ version_span state + cost_of made (record_in (newest state) (changed_table made) (changed_bookmark made))
