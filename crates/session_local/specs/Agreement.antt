-- When a session's own state agrees with the database state. Every answer is asked of a state that does; the session's own
-- steps and the lawful entries of others keep it so.
use Rattle.std.specs.Prelude.{◌≡◌, ℕ, ◌==◌, ◌≤◌, Bool, false, ◌&&◌, ◌||◌, List, [], map, Option, Some, None, IsSome, IsTrue, count_by, ⊤, bytes_eq, is_some}
use Rattle.std.specs.List.{list_any, AllByRecursion}
use Rattle.column_set.specs.declared.changes.Change.{Change}
use Rattle.column_set.specs.declared.changes.Change.TheVariants.{Hold}
use Rattle.column_set.specs.RecordValues.{RecordFields, record_size, record_fits}
use Rattle.database_state.specs.Table.{Table, row_at, rows_of, schema_of, table_with_id}
use Rattle.index_derive.specs.Schemas.{rule_with_id}
use Rattle.database_state.specs.State.{DatabaseState, LiveSession, live_session, is_open_change_of}
use Rattle.database_state.specs.View.{view}
use Rattle.database_state.specs.Lawful.{is_live, keeps_escrow}
use Rattle.session_local.specs.Local.{LocalState, OpenCursor, PreparedUpdate, PreparedFor, inserting, replacing}

abbrev pub open_tables_of : Option LiveSession → List ℕ
open_tables_of None = []
open_tables_of (Some session) = session.open_tables

abbrev pub cursor_table : OpenCursor → ℕ
cursor_table c = c.cursor.table

-- the two lists have each number as often
abbrev pub SameCounts : List ℕ → List ℕ → Type 0
SameCounts one other = (id : ℕ) → count_by (λ n. n == id) one ≡ count_by (λ n. n == id) other

-- the cursor's schema is that of its table, and its index is one of it, or 0 for the order of hidden keys
abbrev pub HasSchemaOf : OpenCursor → Option Table → Type 0
HasSchemaOf c None = ⊥
HasSchemaOf c (Some table) = (c.schema ≡ schema_of table) × IsTrue ((c.cursor.index == 0) || is_some (rule_with_id c.schema c.cursor.index))

-- whether the session has an open lock on the record
abbrev pub is_lock_on : ℕ → List ℕ → Change → Bool
is_lock_on table bookmark (Hold id other) = (id.0 == table) && bytes_eq other bookmark
is_lock_on table bookmark _ = false

abbrev pub has_lock : DatabaseState → ℕ → ℕ → List ℕ → Bool
has_lock state session table bookmark = list_any (λ item. is_open_change_of session item && is_lock_on table bookmark item.change) state.past

-- the record that a prepared update starts from, as far as its sums go: that of the view for a replace, none for an insert
abbrev pub replaced_in : DatabaseState → ℕ → OpenCursor → PreparedFor → Option RecordFields
replaced_in state session c (inserting copied) = None
replaced_in state session c (replacing bookmark) = row_at (rows_of (table_with_id (view state session) c.cursor.table)) bookmark

-- a replace is of a record of the view that the session has locked
abbrev pub MayReplace : DatabaseState → ℕ → OpenCursor → PreparedFor → Type 0
MayReplace state session c (inserting copied) = ⊤
MayReplace state session c (replacing bookmark) =
    IsSome (replaced_in state session c (replacing bookmark)) × IsTrue (has_lock state session c.cursor.table bookmark)

-- a prepared record is not too large, fits its columns, and has the sums that may be stored
abbrev pub IsStorable : DatabaseState → ℕ → OpenCursor → Option PreparedUpdate → Type 0
IsStorable state session c None = ⊤
IsStorable state session c (Some prepared) =
    (record_size prepared.values ≤ 1700)
    × IsTrue (record_fits c.schema.columns prepared.values)
    × IsTrue (keeps_escrow c.schema.columns (replaced_in state session c prepared.for) prepared.values)
    × MayReplace state session c prepared.for

pub record Agrees (state : DatabaseState) (session : ℕ) (local : LocalState) : Type 0 where
  pub begun : local.begun ≡ is_live state session
  pub tables : SameCounts (map cursor_table local.cursors) (open_tables_of (live_session state session))
  pub schemas : AllByRecursion (λ c. HasSchemaOf c (table_with_id state.tables c.cursor.table)) local.cursors
  pub prepared : AllByRecursion (λ c. IsStorable state session c c.prepared) local.cursors
