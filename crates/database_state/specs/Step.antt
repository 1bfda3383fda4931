-- What one log entry does to the database state.
use Rattle.std.specs.Prelude.{ℕ, ◌+◌, ◌-◌, ◌==◌, Bool, true, not, ◌&&◌, nat_lt, List, [], ◌∷◌, ◌++◌, map, filter, Option, Some, None, if◌then◌else◌}
use Rattle.column_set.specs.declared.changes.Change.{Change}
use Rattle.index_derive.specs.declared.log.Entry.{Entry}
use Rattle.index_derive.specs.declared.log.EntryKind.{EntryKind}
use Rattle.index_derive.specs.declared.log.EntryKind.TheVariants as entry
use Rattle.index_derive.specs.declared.schema_calls.SchemaStep.{SchemaStep}
use Rattle.database_state.specs.Table.{record_in}
use Rattle.database_state.specs.Changes.{without_copied, tables_after, tables_after_all}
use Rattle.column_set.specs.ChangedRecords.{changed_table, changed_bookmark}
use Rattle.database_state.specs.State.{DatabaseState, LiveSession, PastChange, Transaction, uncommitted, committed, undone, is_open_change_of, open_changes_of, levels, with_session}
use Rattle.database_state.specs.View.{newest}
use Rattle.database_state.specs.SchemaChanges.{tables_after_step, greatest_table_after}

-- an entry of the session
abbrev pub entry_by : ℕ → EntryKind → Entry
entry_by session kind = record { session = record { 0 = session }; kind = kind }

-- ---- sessions, by rising label

abbrev pub insert_session : LiveSession → List LiveSession → List LiveSession
insert_session session [] = session ∷ []
insert_session session (other ∷ rest) = if nat_lt session.label other.label then session ∷ other ∷ rest else other ∷ insert_session session rest

abbrev pub entered : ℕ → DatabaseState → DatabaseState
entered label state = record state { sessions = insert_session (record { label = label; open_tables = []; transaction = None }) state.sessions }

abbrev pub left : ℕ → DatabaseState → DatabaseState
left label state = record state { sessions = filter (λ s. not (s.label == label)) state.sessions }

-- ---- the open tables of a session, by rising id, each as often as it is open

-- one more comes
abbrev pub with_one : ℕ → List ℕ → List ℕ
with_one id [] = id ∷ []
with_one id (other ∷ rest) = if nat_lt id other then id ∷ other ∷ rest else other ∷ with_one id rest

-- one goes
abbrev pub without_one : ℕ → List ℕ → List ℕ
without_one id [] = []
without_one id (other ∷ rest) = if other == id then rest else other ∷ without_one id rest

-- ---- transactions

abbrev pub with_transaction : ℕ → Option Transaction → DatabaseState → DatabaseState
with_transaction label transaction state = with_session label (λ s. record s { transaction = transaction }) state

abbrev pub began : ℕ → DatabaseState → DatabaseState
began label state = with_transaction label (Some (record { levels = 1; begin = state.number; snapshot = state.tables })) state

abbrev pub at_levels : (ℕ → ℕ) → Option Transaction → Option Transaction
at_levels change None = None
at_levels change (Some transaction) = Some (record transaction { levels = change transaction.levels })

abbrev pub with_levels : ℕ → (ℕ → ℕ) → DatabaseState → DatabaseState
with_levels label change state = with_session label (λ s. record s { transaction = at_levels change s.transaction }) state

-- the session's open changes at this level become another
abbrev pub with_changes_at : ℕ → (PastChange → Bool) → (PastChange → PastChange) → DatabaseState → DatabaseState
with_changes_at label test change state = record state { past = map (λ item. if is_open_change_of label item && test item then change item else item) state.past }

abbrev pub is_at_level : ℕ → PastChange → Bool
is_at_level level item = item.level == level

abbrev pub every_change : PastChange → Bool
every_change item = true

-- the changes of the innermost level go to the level below
abbrev pub released : ℕ → DatabaseState → DatabaseState
released label state = with_levels label (λ n. n - 1) (with_changes_at label (is_at_level (levels state label)) (λ item. record item { level = item.level - 1 }) state)

-- the innermost level and its changes are given up, and with the last level the transaction
abbrev pub innermost_undone : ℕ → DatabaseState → DatabaseState
innermost_undone label state =
    let undoing = with_changes_at label (is_at_level (levels state label)) (λ item. record item { status = undone }) state in
    if nat_lt 1 (levels state label) then with_levels label (λ n. n - 1) undoing else with_transaction label None undoing

abbrev pub all_undone : ℕ → DatabaseState → DatabaseState
all_undone label state = with_transaction label None (with_changes_at label every_change (λ item. record item { status = undone }) state)

-- the session's open changes are applied to the committed tables in order, and are committed at this number
abbrev pub all_committed : ℕ → DatabaseState → DatabaseState
all_committed label state =
    with_transaction label None
    (with_changes_at label every_change (λ item. record item { status = committed state.number })
    (record state { tables = tables_after_all state.tables (open_changes_of label state.past) }))

-- ---- changes

-- A change is a new open item at the innermost level, with its record before and after in the newest state. That a put was
-- copied from another record stands in the log alone.
abbrev pub changed : ℕ → Change → DatabaseState → DatabaseState
changed label change state =
    let tables = newest state in
    record state {
      past = state.past ++ record {
        number = state.number;
        session = label;
        level = levels state label;
        change = without_copied change;
        before = record_in tables (changed_table change) (changed_bookmark change);
        after = record_in (tables_after tables change) (changed_table change) (changed_bookmark change);
        status = uncommitted;
      } ∷ [];
    }

abbrev pub with_schema_step : SchemaStep → DatabaseState → DatabaseState
with_schema_step made state = record state { tables = tables_after_step state.tables made; greatest_table = greatest_table_after state.greatest_table made }

-- ---- the step

-- what an entry of this session does in the state whose number is already its own
abbrev pub applied : ℕ → EntryKind → DatabaseState → DatabaseState
applied label entry.Enter state = entered label state
applied label entry.Leave state = left label (all_undone label state)
applied label (entry.Open table) state = with_session label (λ s. record s { open_tables = with_one table.0 s.open_tables }) state
applied label (entry.Shut table) state = with_session label (λ s. record s { open_tables = without_one table.0 s.open_tables }) state
applied label entry.Begin state = began label state
applied label entry.Save state = with_levels label (λ n. n + 1) state
applied label (entry.Change change) state = changed label change state
applied label entry.Release state = released label state
applied label entry.Undo state = innermost_undone label state
applied label entry.UndoAll state = all_undone label state
applied label entry.Commit state = all_committed label state
applied label (entry.Schema made) state = with_schema_step made state

-- The state after an entry: its number is one higher, and the entry has its effect.
unfoldable pub state_after : DatabaseState → Entry → DatabaseState
state_after state made = applied made.session.0 made.kind (record state { number = state.number + 1 })

abbrev pub state_after_all : DatabaseState → List Entry → DatabaseState
state_after_all state [] = state
state_after_all state (made ∷ entries) = state_after_all (state_after state made) entries
