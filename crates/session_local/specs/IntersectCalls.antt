-- The call that fills a temporary table with the bookmarks that lie in the ranges of several cursors.
use Rattle.std.specs.Prelude.{ℕ, ◌==◌, Bool, true, false, not, nat_le, List, [], ◌∷◌, length, map, Option, Some, None, is_some, Result, Ok, Err}
use Rattle.std.specs.List.{list_all}
use Rattle.jet_base.specs.declared.ids.CursorId.{CursorId}
use Rattle.jet_base.specs.declared.replies.Jet.{Jet}
use Rattle.jet_base.specs.declared.replies.Jet.TheVariants as jet
use Rattle.jet_base.specs.declared.words.ColType.TheVariants.{Binary}
use Rattle.column_set.specs.Refusals.{first_refusal}
use Rattle.database_state.specs.Table.{Table, index_entries, rows_of, table_with_id}
use Rattle.database_state.specs.View.{view}
use Rattle.index_intersect.specs.CursorRanges.{cursor_range}
use Rattle.index_intersect.specs.Intersection.{Indexes, intersection}
use Rattle.temp_table.specs.declared.columns.TempColumn.{TempColumn}
use Rattle.temp_table.specs.TempRows.{TempRows, opened, put_row}
use Rattle.session_local.specs.Answer.{Count}
use Rattle.session_local.specs.Local.{OpenCursor, cursor_labelled, temp_labelled, with_new_temp}
use Rattle.session_local.specs.Outcome.{CallInputs, Outcome, current_refusals, done, refused, rows_seen, unless}

-- ---- the cursors

-- a cursor that is there and on a record that the session sees, or the refusal
abbrev pub current_or : Option Jet → OpenCursor → Result OpenCursor Jet
current_or None open_cursor = Ok open_cursor
current_or (Some reply) open_cursor = Err reply

abbrev pub current_cursor : CallInputs → Option OpenCursor → Result OpenCursor Jet
current_cursor asked None = Err jet.InvalidTableId
current_cursor asked (Some open_cursor) = current_or (first_refusal (current_refusals (rows_seen asked open_cursor) open_cursor.cursor.place)) open_cursor

-- all of them, or the first refusal
abbrev pub joined : {A : Type 0} → Result A Jet → Result (List A) Jet → Result (List A) Jet
joined (Err reply) others = Err reply
joined (Ok one) (Err reply) = Err reply
joined (Ok one) (Ok others) = Ok (one ∷ others)

abbrev pub current_cursors : CallInputs → List CursorId → Result (List OpenCursor) Jet
current_cursors asked [] = Ok []
current_cursors asked (label ∷ labels) = joined (current_cursor asked (cursor_labelled asked.local label.0)) (current_cursors asked labels)

abbrev pub are_of_one_table : List OpenCursor → Bool
are_of_one_table [] = true
are_of_one_table (first ∷ others) = list_all (λ other. other.cursor.table == first.cursor.table) others

-- ---- the bookmarks

-- the entries of each index of the cursor's table
abbrev pub indexes_in : List Table → OpenCursor → Indexes
indexes_in tables open_cursor table index = index_entries open_cursor.schema (rows_of (table_with_id tables table)) index

-- those that lie in the ranges of all cursors, in rising order and each once; the cursors are of one table
abbrev pub common_in : List Table → List OpenCursor → List (List ℕ)
common_in tables [] = []
common_in tables (first ∷ others) = intersection (indexes_in tables first) (map (λ (c : OpenCursor). cursor_range c.cursor) (first ∷ others))

-- the same of the tables as the session sees them
abbrev pub common_bookmarks : CallInputs → List OpenCursor → List (List ℕ)
common_bookmarks asked cursors = common_in (view asked.state asked.session) cursors

-- ---- the temporary table

-- one column of bytes, by which the rows rise
abbrev pub bookmark_columns : List TempColumn
bookmark_columns = record { kind = Binary; is_key = true; descending = false } ∷ []

-- the table with one row more for each bookmark, put in turn
abbrev pub with_bookmarks : TempRows → List (List ℕ) → TempRows
with_bookmarks table [] = table
with_bookmarks table (bookmark ∷ bookmarks) = with_bookmarks (put_row table (Some bookmark ∷ [])) bookmarks

abbrev pub table_of_bookmarks : List (List ℕ) → TempRows
table_of_bookmarks bookmarks = with_bookmarks (opened bookmark_columns false) bookmarks

-- ---- the call

-- the table of the bookmarks under this label, which are counted
abbrev pub filled_with : CallInputs → CursorId → List (List ℕ) → Outcome
filled_with asked temp bookmarks = done (with_new_temp asked.local (record { label = temp; table = table_of_bookmarks bookmarks })) (Count (length bookmarks)) None

-- Cursors of one table fill the table with what their ranges have in common.
abbrev pub filled_by : CallInputs → CursorId → Result (List OpenCursor) Jet → Outcome
filled_by asked temp (Err reply) = refused asked reply
filled_by asked temp (Ok cursors) = unless asked ((not (are_of_one_table cursors), jet.InvalidParameter) ∷ []) (λ _. filled_with asked temp (common_bookmarks asked cursors))

-- The call reads, and makes no step. Its label is free, and a session has four temporary tables at most; then each cursor in turn
-- is there and on a record that is there.
abbrev pub intersect_indexes : CallInputs → CursorId → List CursorId → Outcome
intersect_indexes asked temp labels =
    unless asked
    ((is_some (temp_labelled asked.local.temps temp), jet.InvalidTableId) ∷ (nat_le 4 (length asked.local.temps), jet.OutOfCursors) ∷ [])
    (λ _. filled_by asked temp (current_cursors asked labels))
