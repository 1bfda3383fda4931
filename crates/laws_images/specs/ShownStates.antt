-- The database state that an engine shows: its newest records with the held changes taken back, the newest first, and made again
-- as each reader sees them. No held change is undone.
use Rattle.std.specs.Prelude.{ℕ, Bool, List, [], ◌∷◌, map, filter, Option, Some, None, unwrap_or, option_map}
use Rattle.jet_base.specs.Ids.{table_id}
use Rattle.column_set.specs.declared.changes.Change.{Change}
use Rattle.column_set.specs.declared.changes.Change.TheVariants.{Put, Drop, Hold, Add}
use Rattle.column_set.specs.RecordValues.{RecordFields}
use Rattle.database_state.specs.Changes.{tables_after, tables_after_all}
use Rattle.database_state.specs.State.{DatabaseState, LiveSession, PastChange, Transaction, change_of}
use Rattle.database_state.specs.Table.{Table, record_in}
use Rattle.laws_versions.specs.Records.{record_after}
use Rattle.laws_versions.specs.Readers.{was_committed}
use Rattle.version_cleanup.specs.LiveSessions.{LiveState}
use Rattle.version_cleanup.specs.declared.live.Transaction.{Transaction as LiveTransaction}
use Rattle.version_store.specs.declared.calls.ChangeKind.{ChangeKind}
use Rattle.version_store.specs.declared.calls.ChangeKind.TheVariants as kind
use Rattle.laws_engine.specs.HeldRecords.{HeldRecord, inverse}
use Rattle.laws_engine.specs.VersionedTables.{VersionedTables}

-- ---- held changes as past ones

-- a change by its kind, given the record that it left: a put put that
abbrev pub change_made : ChangeKind → ℕ → List ℕ → Option RecordFields → Change
change_made kind.Put table bookmark after = Put (table_id table) bookmark None (unwrap_or after [])
change_made kind.Drop table bookmark after = Drop (table_id table) bookmark
change_made kind.Hold table bookmark after = Hold (table_id table) bookmark
change_made (kind.Add column amount) table bookmark after = Add (table_id table) bookmark column amount

-- a held change as a past one, given the record that it left
abbrev pub past_change : HeldRecord → Option RecordFields → PastChange
past_change held after = record {
  number = held.number;
  session = held.session;
  level = held.level;
  change = change_made held.kind held.table held.bookmark after;
  before = record_after (inverse held) after;
  after = after;
  status = held.status;
}

-- the tables before the held changes: each is taken back, the newest first
abbrev pub tables_before : List HeldRecord → List Table → List Table
tables_before [] tables = tables
tables_before (held ∷ changes) tables = tables_after (tables_before changes tables) (inverse held)

-- each held change with the record that it left, the one that the later ones had before them
abbrev pub past_of : List HeldRecord → List Table → List PastChange
past_of [] tables = []
past_of (held ∷ changes) tables = past_change held (record_in (tables_before changes tables) held.table held.bookmark) ∷ past_of changes tables

-- ---- the state

-- the tables with those of the past changes that pass
abbrev pub tables_with : (PastChange → Bool) → List Table → List PastChange → List Table
tables_with test tables past = tables_after_all tables (map change_of (filter test past))

-- a live transaction as one of a database state, with no tables in its snapshot
abbrev pub with_empty_snapshot : LiveTransaction → Transaction
with_empty_snapshot transaction = record { levels = transaction.levels; begin = transaction.begin; snapshot = [] }

-- a transaction whose snapshot has the tables that were committed when it began
abbrev pub with_snapshot : List Table → List PastChange → LiveTransaction → Transaction
with_snapshot tables past transaction = record (with_empty_snapshot transaction) { snapshot = tables_with (was_committed (Some (with_empty_snapshot transaction))) tables past }

-- a live session with the snapshot of its transaction
abbrev pub session_of : List Table → List PastChange → LiveState → LiveSession
session_of tables past session = record { label = session.label; open_tables = session.open_tables; transaction = option_map (with_snapshot tables past) session.transaction }

-- The database state of so many entries, given the greatest table id ever given, the sessions, and the newest records beside the
-- held changes.
abbrev pub shown_state : ℕ → ℕ → List LiveState → VersionedTables → DatabaseState
shown_state number greatest sessions store =
    let first = tables_before store.held store.tables in
    let past = past_of store.held store.tables in
    record { number = number; greatest_table = greatest; tables = tables_with (was_committed None) first past; sessions = map (session_of first past) sessions; past = past }
