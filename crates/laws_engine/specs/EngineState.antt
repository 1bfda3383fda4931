-- What an engine with versions holds, as contracts see it.
use Rattle.std.specs.Prelude.{ℕ, ◌+◌, ◌^◌, ◌≤◌, Bool, false, List, [], length, Option, Some, None}
use Rattle.std.specs.List.{sum_by}
use Rattle.database_state.specs.Table.{Table}
use Rattle.database_state.specs.State.{DatabaseState}
use Rattle.version_cleanup.specs.LiveSessions.{LiveState, has_open, levels_of, oldest_begin}
use Rattle.laws_engine.specs.HeldRecords.{from_oldest_kept}
use Rattle.laws_engine.specs.VersionedTables.{VersionedTables}

-- The limit of the version store's span in bytes, the number of log entries, the greatest table id ever given, the number of the
-- newest log entry that put a record, 0 where none did, the live sessions without snapshots, and the tables with their newest
-- records beside the held changes.
pub record EngineState : Type 0 where
  pub limit : ℕ
  pub number : ℕ
  pub greatest_table : ℕ
  pub newest_put : ℕ
  pub sessions : List LiveState
  pub store : VersionedTables

-- the engine of an empty database
abbrev pub empty_engine : ℕ → EngineState
empty_engine limit = record { limit = limit; number = 0; greatest_table = 0; newest_put = 0; sessions = []; store = record { tables = []; held = [] } }

-- the engine of a database without sessions, as it stands on disk, given the number of its newest put
abbrev pub engine_of : ℕ → ℕ → DatabaseState → EngineState
engine_of limit newest state = record { limit = limit; number = state.number; greatest_table = state.greatest_table; newest_put = newest; sessions = []; store = record { tables = state.tables; held = [] } }

-- without the held changes before the oldest one that must be kept
abbrev pub cleaned : EngineState → EngineState
cleaned engine = record engine { store = record engine.store { held = from_oldest_kept (oldest_begin engine.sessions) engine.store.held } }

-- whether any session has the table open
abbrev pub has_table_open : List LiveState → Option Table → Bool
has_table_open sessions None = false
has_table_open sessions (Some table) = has_open table.id sessions

-- ---- the number of the log

-- how much a session may still end: itself, its open tables and its levels
abbrev pub ends_of : LiveState → ℕ
ends_of session = 1 + length session.open_tables + levels_of session.transaction

abbrev pub ends_in : List LiveState → ℕ
ends_in sessions = sum_by ends_of sessions

-- The number has room for all that is to end: no more is to end than was begun, and all of it can end below 2^36. An entry
-- that begins something comes only below 2^34, and a change up to there.
pub record HasRoomForEnds (engine : EngineState) : Type 0 where
  pub begun : ends_in engine.sessions ≤ engine.number
  pub room : engine.number + ends_in engine.sessions ≤ 2 ^ 35 + 1
