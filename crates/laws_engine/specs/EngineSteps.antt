-- What a log entry does to what the engine holds.
use Rattle.std.specs.Prelude.{ℕ, ◌+◌, ◌^◌, ◌-◌, Bool, true, false, List, [], ◌∷◌, Option, Some, None}
use Rattle.jet_base.specs.Ids.{session_id}
use Rattle.column_set.specs.declared.changes.Change.{Change}
use Rattle.column_set.specs.declared.changes.Change.TheVariants.{Put, Drop, Hold, Add}
use Rattle.index_derive.specs.declared.log.Entry.{Entry}
use Rattle.index_derive.specs.declared.log.EntryKind.{EntryKind}
use Rattle.index_derive.specs.declared.log.EntryKind.TheVariants as entry
use Rattle.index_derive.specs.declared.log.Step.{Step}
use Rattle.index_derive.specs.declared.log.Step.TheVariants.{One, Alone}
use Rattle.index_derive.specs.Steps.{entries_of_step}
use Rattle.database_state.specs.SchemaChanges.{greatest_table_after}
use Rattle.version_store.specs.declared.calls.By.{By}
use Rattle.version_cleanup.specs.declared.live.Transaction.{Transaction}
use Rattle.version_cleanup.specs.LiveSessions.{levels_in, transaction_in, oldest_begin, sessions_after}
use Rattle.laws_engine.specs.HeldRecords.{is_open_at, is_open_of}
use Rattle.laws_engine.specs.VersionedTables.{VersionedTables, with_change, with_changes_undone, with_level_released, with_session_committed, with_schema_step}
use Rattle.laws_engine.specs.EngineState.{EngineState, cleaned}

abbrev pub begin_or_none : Option Transaction → ℕ
begin_or_none None = 0
begin_or_none (Some transaction) = transaction.begin

-- Who makes a change, by the next entry: the session in its transaction at its innermost level. The span is not asked again,
-- so that there is no limit.
abbrev pub maker : EngineState → ℕ → By
maker engine session = record {
  number = engine.number + 1;
  session = session_id session;
  begin = begin_or_none (transaction_in session engine.sessions);
  level = levels_in session engine.sessions;
  limit = 2 ^ 64 - 1;
  oldest = oldest_begin engine.sessions;
}

-- what an entry of the session makes of the tables and the held changes
abbrev pub store_after : EngineState → ℕ → EntryKind → VersionedTables
store_after engine session (entry.Change made) = with_change (maker engine session) made engine.store
store_after engine session entry.Release = with_level_released session (levels_in session engine.sessions) engine.store
store_after engine session entry.Commit = with_session_committed session (engine.number + 1) engine.store
store_after engine session entry.Undo = with_changes_undone (is_open_at session (levels_in session engine.sessions)) engine.store
store_after engine session entry.UndoAll = with_changes_undone (is_open_of session) engine.store
store_after engine session entry.Leave = with_changes_undone (is_open_of session) engine.store
store_after engine session (entry.Schema made) = with_schema_step made engine.store
store_after engine session entry.Enter = engine.store
store_after engine session (entry.Open table) = engine.store
store_after engine session (entry.Shut table) = engine.store
store_after engine session entry.Begin = engine.store
store_after engine session entry.Save = engine.store

abbrev pub greatest_after : ℕ → EntryKind → ℕ
greatest_after greatest (entry.Schema made) = greatest_table_after greatest made
greatest_after greatest _ = greatest

-- the number of the newest put once a change comes with a number
abbrev pub newest_with : ℕ → Change → ℕ → ℕ
newest_with number (Put table bookmark copied values) newest = number
newest_with number (Drop table bookmark) newest = newest
newest_with number (Hold table bookmark) newest = newest
newest_with number (Add table bookmark column amount) newest = newest

abbrev pub newest_after : ℕ → EntryKind → ℕ → ℕ
newest_after number (entry.Change made) newest = newest_with number made newest
newest_after number _ newest = newest

-- what an entry of the session makes of all
abbrev pub effect_on : EngineState → ℕ → EntryKind → EngineState
effect_on engine session kind = record engine {
  number = engine.number + 1;
  greatest_table = greatest_after engine.greatest_table kind;
  newest_put = newest_after (engine.number + 1) kind engine.newest_put;
  sessions = sessions_after (engine.number + 1) session kind engine.sessions;
  store = store_after engine session kind;
}

abbrev pub engine_after : EngineState → Entry → EngineState
engine_after engine made = effect_on engine made.session.0 made.kind

abbrev pub engine_after_all : EngineState → List Entry → EngineState
engine_after_all engine [] = engine
engine_after_all engine (made ∷ entries) = engine_after_all (engine_after engine made) entries

-- ---- steps

-- a change of a record and a schema step clean first
abbrev pub cleans_first : EntryKind → Bool
cleans_first (entry.Change made) = true
cleans_first (entry.Schema made) = true
cleans_first _ = false

abbrev pub cleaned_for : Bool → EngineState → EngineState
cleaned_for true engine = cleaned engine
cleaned_for false engine = engine

abbrev pub step_cleans : Step → Bool
step_cleans (One made) = cleans_first made.kind
step_cleans (Alone made) = cleans_first made.kind

-- the engine after a step
abbrev pub engine_after_step : EngineState → Step → EngineState
engine_after_step engine step = engine_after_all (cleaned_for (step_cleans step) engine) (entries_of_step (Some step))

-- the engine after an answer, which may have no step
abbrev pub engine_after_answer : EngineState → Option Step → EngineState
engine_after_answer engine None = engine
engine_after_answer engine (Some step) = engine_after_step engine step
