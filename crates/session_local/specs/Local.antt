-- A session's own state: its cursors with what is prepared on them, and its temporary tables.
use Rattle.std.specs.Prelude.{ℕ, ◌==◌, Bool, true, false, cond, not, ◌&&◌, List, [], ◌∷◌, ◌++◌, map, filter, find, Option, Some, None, if◌then◌else◌, bytes_eq}
use Rattle.std.specs.List.{list_any}
use Rattle.index_derive.specs.declared.rules.Schema.{Schema}
use Rattle.column_set.specs.RecordValues.{RecordFields}
use Rattle.cursor_nav.specs.Navigation.{CursorState}
use Rattle.cursor_nav.specs.Places.{is_on, place_key, place_bookmark}
use Rattle.jet_base.specs.declared.ids.CursorId.{CursorId}
use Rattle.session_local.specs.declared.open_temp.OpenTemp.{OpenTemp}

-- What a prepared update will do: insert a record, perhaps copied from one, or replace the one under a bookmark.
pub data PreparedFor : Type 0 where
  inserting : Option (List ℕ) → PreparedFor
  replacing : List ℕ → PreparedFor

pub record PreparedUpdate : Type 0 where
  pub for : PreparedFor
  pub values : RecordFields

-- An open cursor: its label, its table's schema as it was opened, its cursor and its prepared update.
pub record OpenCursor : Type 0 where
  pub label : ℕ
  pub schema : Schema
  pub cursor : CursorState
  pub prepared : Option PreparedUpdate

pub record LocalState : Type 0 where
  pub begun : Bool
  pub cursors : List OpenCursor
  pub temps : List OpenTemp

-- a session that was not begun
abbrev pub no_session : LocalState
no_session = record { begun = false; cursors = []; temps = [] }

-- a session that has just begun
abbrev pub new_session : LocalState
new_session = record { begun = true; cursors = []; temps = [] }

-- ---- cursors by label

abbrev pub cursor_labelled : LocalState → ℕ → Option OpenCursor
cursor_labelled local label = find (λ c. c.label == label) local.cursors

abbrev pub with_cursor : LocalState → OpenCursor → LocalState
with_cursor local cursor = record local { cursors = map (λ c. if c.label == cursor.label then cursor else c) local.cursors }

abbrev pub with_new_cursor : LocalState → OpenCursor → LocalState
with_new_cursor local cursor = record local { cursors = local.cursors ++ cursor ∷ [] }

abbrev pub without_cursor : LocalState → ℕ → LocalState
without_cursor local label = record local { cursors = filter (λ c. not (c.label == label)) local.cursors }

abbrev pub unprepared : OpenCursor → OpenCursor
unprepared open_cursor = record open_cursor { prepared = None }

-- every prepared update of the session is dropped
abbrev pub without_prepared : LocalState → LocalState
without_prepared local = record local { cursors = map unprepared local.cursors }

-- ---- temporary tables by label

abbrev pub temp_labelled : List OpenTemp → CursorId → Option OpenTemp
temp_labelled temps label = find (λ temp. temp.label.0 == label.0) temps

-- a table in the place of the one with its label
abbrev pub with_temp : List OpenTemp → OpenTemp → List OpenTemp
with_temp [] new = []
with_temp (temp ∷ temps) new = cond (temp.label.0 == new.label.0) (new ∷ temps) (temp ∷ with_temp temps new)

-- one more table, behind the others
abbrev pub with_new_temp : LocalState → OpenTemp → LocalState
with_new_temp local temp = record local { temps = local.temps ++ temp ∷ [] }

abbrev pub without_temp : List OpenTemp → CursorId → List OpenTemp
without_temp [] label = []
without_temp (temp ∷ temps) label = cond (temp.label.0 == label.0) temps (temp ∷ without_temp temps label)

-- ---- prepared updates

abbrev pub is_replace_of : List ℕ → Option PreparedUpdate → Bool
is_replace_of bookmark None = false
is_replace_of bookmark (Some prepared) = replaces prepared.for
  where
    replaces : PreparedFor → Bool
    replaces (inserting copied) = false
    replaces (replacing other) = bytes_eq other bookmark

-- whether a cursor of the session has a replace of this record prepared
abbrev pub has_replace_of : LocalState → ℕ → List ℕ → Bool
has_replace_of local table bookmark = list_any (λ c. (c.cursor.table == table) && is_replace_of bookmark c.prepared) local.cursors
