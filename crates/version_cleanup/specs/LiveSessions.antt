-- The live sessions, without the snapshots of their transactions, and what the entries of a log do to them.
use Rattle.std.specs.Prelude.{ℕ, ◌+◌, ◌-◌, ◌==◌, Bool, true, false, not, ◌&&◌, nat_lt, min, List, [], ◌∷◌, map, filter, find, Option, Some, None, is_some, option_map, option_and_then, if◌then◌else◌}
use Rattle.std.specs.List.{list_any, list_all}
use Rattle.index_derive.specs.declared.log.EntryKind.{EntryKind}
use Rattle.index_derive.specs.declared.log.EntryKind.TheVariants as entry
use Rattle.database_state.specs.State.{LiveSession, Transaction as WholeTransaction}
use Rattle.database_state.specs.Step.{with_one, without_one}
use Rattle.version_cleanup.specs.declared.live.Transaction.{Transaction}

-- A live session: its label, the tables that its cursors have open, by rising id and each as often, and its transaction.
pub record LiveState : Type 0 where
  pub label : ℕ
  pub open_tables : List ℕ
  pub transaction : Option Transaction

-- ---- a live session of a database state, without its snapshot

abbrev pub without_snapshot : WholeTransaction → Transaction
without_snapshot transaction = record { levels = transaction.levels; begin = transaction.begin }

abbrev pub live_state : LiveSession → LiveState
live_state session = record { label = session.label; open_tables = session.open_tables; transaction = option_map without_snapshot session.transaction }

-- ---- one session

abbrev pub session_in : ℕ → List LiveState → Option LiveState
session_in label sessions = find (λ s. s.label == label) sessions

abbrev pub is_live : ℕ → List LiveState → Bool
is_live label sessions = is_some (session_in label sessions)

abbrev pub transaction_in : ℕ → List LiveState → Option Transaction
transaction_in label sessions = option_and_then (λ s. s.transaction) (session_in label sessions)

abbrev pub levels_of : Option Transaction → ℕ
levels_of None = 0
levels_of (Some transaction) = transaction.levels

-- how many levels stand in the session's transaction, 0 outside one
abbrev pub levels_in : ℕ → List LiveState → ℕ
levels_in label sessions = levels_of (transaction_in label sessions)

abbrev pub with_session : ℕ → (LiveState → LiveState) → List LiveState → List LiveState
with_session label change sessions = map (λ s. if s.label == label then change s else s) sessions

-- ---- sessions come and go

abbrev pub new_session : ℕ → LiveState
new_session label = record { label = label; open_tables = []; transaction = None }

abbrev pub insert_session : LiveState → List LiveState → List LiveState
insert_session session [] = session ∷ []
insert_session session (other ∷ rest) = if nat_lt session.label other.label then session ∷ other ∷ rest else other ∷ insert_session session rest

abbrev pub entered : ℕ → List LiveState → List LiveState
entered label sessions = insert_session (new_session label) sessions

abbrev pub left : ℕ → List LiveState → List LiveState
left label sessions = filter (λ s. not (s.label == label)) sessions

-- each label is above those before it
abbrev pub are_rising : List LiveState → Bool
are_rising [] = true
are_rising (s ∷ sessions) = list_all (λ other. nat_lt s.label other.label) sessions && are_rising sessions

-- ---- what an entry does to its session

abbrev pub opened : ℕ → LiveState → LiveState
opened table s = record s { open_tables = with_one table s.open_tables }

abbrev pub shut : ℕ → LiveState → LiveState
shut table s = record s { open_tables = without_one table s.open_tables }

abbrev pub began : ℕ → LiveState → LiveState
began number s = record s { transaction = Some (record { levels = 1; begin = number }) }

abbrev pub ended : LiveState → LiveState
ended s = record s { transaction = None }

abbrev pub at_levels : (ℕ → ℕ) → Option Transaction → Option Transaction
at_levels change None = None
at_levels change (Some transaction) = Some (record transaction { levels = change transaction.levels })

-- one more level
abbrev pub saved : LiveState → LiveState
saved s = record s { transaction = at_levels (λ n. n + 1) s.transaction }

-- one level less
abbrev pub lowered : LiveState → LiveState
lowered s = record s { transaction = at_levels (λ n. n - 1) s.transaction }

-- one level less in the session, and with the last level the transaction ends
abbrev pub level_ended : ℕ → List LiveState → List LiveState
level_ended label sessions = if nat_lt 1 (levels_in label sessions) then with_session label lowered sessions else with_session label ended sessions

-- the sessions after the entry of this number, by the session of this label
abbrev pub sessions_after : ℕ → ℕ → EntryKind → List LiveState → List LiveState
sessions_after number label entry.Enter sessions = entered label sessions
sessions_after number label entry.Leave sessions = left label sessions
sessions_after number label (entry.Open table) sessions = with_session label (opened table.0) sessions
sessions_after number label (entry.Shut table) sessions = with_session label (shut table.0) sessions
sessions_after number label entry.Begin sessions = with_session label (began number) sessions
sessions_after number label entry.Save sessions = with_session label saved sessions
sessions_after number label entry.Release sessions = with_session label lowered sessions
sessions_after number label entry.Undo sessions = level_ended label sessions
sessions_after number label entry.UndoAll sessions = with_session label ended sessions
sessions_after number label entry.Commit sessions = with_session label ended sessions
sessions_after number label (entry.Change change) sessions = sessions
sessions_after number label (entry.Schema made) sessions = sessions

-- ---- all sessions

abbrev pub has_table : ℕ → Option LiveState → Bool
has_table table None = false
has_table table (Some s) = list_any (λ id. id == table) s.open_tables

-- whether the session has a cursor open on the table
abbrev pub has_open_in : ℕ → ℕ → List LiveState → Bool
has_open_in label table sessions = has_table table (session_in label sessions)

-- whether any session has a cursor open on the table
abbrev pub has_open : ℕ → List LiveState → Bool
has_open table sessions = list_any (λ s. list_any (λ id. id == table) s.open_tables) sessions

-- whether a session other than this one is in a transaction
abbrev pub has_other_transaction : ℕ → List LiveState → Bool
has_other_transaction label sessions = list_any (λ s. not (s.label == label) && is_some s.transaction) sessions

abbrev pub begin_of : LiveState → Option ℕ
begin_of s = option_map (λ t. t.begin) s.transaction

abbrev pub lesser : Option ℕ → Option ℕ → Option ℕ
lesser None other = other
lesser (Some n) None = Some n
lesser (Some n) (Some m) = Some (min n m)

-- the least begin number of an open transaction
abbrev pub oldest_begin : List LiveState → Option ℕ
oldest_begin [] = None
oldest_begin (s ∷ sessions) = lesser (begin_of s) (oldest_begin sessions)
