-- The database state: what all sessions share.
use Rattle.std.specs.Prelude.{ℕ, ◌==◌, Bool, true, false, ◌&&◌, List, [], Option, Some, None, find, map, filter, if◌then◌else◌, option_and_then}
use Rattle.column_set.specs.declared.changes.Change.{Change}
use Rattle.column_set.specs.RecordValues.{RecordFields}
use Rattle.database_state.specs.Table.{Table}

-- The state of a change: its transaction is open, or was committed by the entry of this number, or it was undone.
pub data Status : Type 0 where
  uncommitted : Status
  committed : ℕ → Status
  undone : Status

-- A change of the past: the number of its entry, who made it at which level, and its record before and after, as the
-- newest state had them.
pub record PastChange : Type 0 where
  pub number : ℕ
  pub session : ℕ
  pub level : ℕ
  pub change : Change
  pub before : Option RecordFields
  pub after : Option RecordFields
  pub status : Status

-- A transaction: its levels, from 1, the number of the entry that began it, and a copy of the committed tables of then.
pub record Transaction : Type 0 where
  pub levels : ℕ
  pub begin : ℕ
  pub snapshot : List Table

-- A live session: its label, the tables that its cursors have open, by rising id and each as often, and its transaction.
pub record LiveSession : Type 0 where
  pub label : ℕ
  pub open_tables : List ℕ
  pub transaction : Option Transaction

-- The number of entries so far, the greatest table id ever given, the committed tables by rising id, the live sessions
-- and the past changes, oldest first.
pub record DatabaseState : Type 0 where
  pub number : ℕ
  pub greatest_table : ℕ
  pub tables : List Table
  pub sessions : List LiveSession
  pub past : List PastChange

abbrev pub empty_state : DatabaseState
empty_state = record { number = 0; greatest_table = 0; tables = []; sessions = []; past = [] }

-- ---- sessions

abbrev pub live_session : DatabaseState → ℕ → Option LiveSession
live_session state session = find (λ s. s.label == session) state.sessions

abbrev pub transaction_of : DatabaseState → ℕ → Option Transaction
transaction_of state session = option_and_then (λ s. s.transaction) (live_session state session)

abbrev pub levels_of : Option Transaction → ℕ
levels_of None = 0
levels_of (Some transaction) = transaction.levels

-- how many levels stand in a session's transaction, 0 outside one
abbrev pub levels : DatabaseState → ℕ → ℕ
levels state session = levels_of (transaction_of state session)

abbrev pub with_session : ℕ → (LiveSession → LiveSession) → DatabaseState → DatabaseState
with_session session change state = record state { sessions = map (λ s. if s.label == session then change s else s) state.sessions }

-- ---- changes of the past

abbrev pub is_open : Status → Bool
is_open uncommitted = true
is_open (committed number) = false
is_open undone = false

abbrev pub is_undone : Status → Bool
is_undone uncommitted = false
is_undone (committed number) = false
is_undone undone = true

-- whether it is an open change of this session
abbrev pub is_open_change_of : ℕ → PastChange → Bool
is_open_change_of session item = is_open item.status && (item.session == session)

abbrev pub change_of : PastChange → Change
change_of item = item.change

-- the open changes of one session, and of all, in the order of their numbers
abbrev pub open_changes_of : ℕ → List PastChange → List Change
open_changes_of session past = map change_of (filter (is_open_change_of session) past)

abbrev pub open_changes : List PastChange → List Change
open_changes past = map change_of (filter (λ item. is_open item.status) past)
