-- Laws of IntersectIndexes: the rows of the table that it fills, and which refusals a cursor gives.
use Rattle.std.proofs.Common.{ℕ, Bool, true, false, not, List, [], ◌∷◌, map, Option, Some, None, Result, Ok, Err, is_none}
use Rattle.jet_base.specs.declared.ids.CursorId.{CursorId}
use Rattle.jet_base.specs.declared.replies.Jet.{Jet}
use Rattle.jet_base.specs.declared.replies.Jet.TheVariants as jet
use Rattle.column_set.specs.Refusals.{first_refusal}
use Rattle.cursor_nav.specs.Places.{is_on, place_bookmark}
use Rattle.database_state.specs.Table.{row_at}
use Rattle.temp_table.specs.TempColumns.{RowValues}
use Rattle.temp_table.specs.TempRows.{TempRows, opened}
use Rattle.session_local.specs.IntersectCalls.{bookmark_columns, current_cursor, current_cursors, current_or, joined}
use Rattle.session_local.specs.Local.{OpenCursor, cursor_labelled}
use Rattle.session_local.specs.Outcome.{CallInputs, rows_seen}

-- ---- the rows of a filled table

abbrev pub row_of_bookmark : List ℕ → RowValues
row_of_bookmark bookmark = Some bookmark ∷ []

-- a row for each bookmark, in their order
abbrev pub filled_in_order : List (List ℕ) → TempRows
filled_in_order bookmarks = record (opened bookmark_columns false) { rows = map row_of_bookmark bookmarks }

-- ---- refusals

-- a fact of the refusal, where it is one
abbrev pub IsErrOr : {A : Type 0} → (Jet → Type 0) → Result A Jet → Type 0
IsErrOr Q (Ok a) = Unit {0}
IsErrOr Q (Err reply) = Q reply

joined-each : {A : Type 0} (Q : Jet → Type 0) (one : Result A Jet) (others : Result (List A) Jet) → IsErrOr Q one → IsErrOr Q others → IsErrOr Q (joined one others)
joined-each Q (Err reply) others first rest = first
joined-each Q (Ok one) (Err reply) first rest = rest
joined-each Q (Ok one) (Ok others) first rest = tt

current-each : (Q : Jet → Type 0) (c : OpenCursor) (off gone : Bool) → Q jet.NoCurrentRecord → Q jet.RecordDeleted → IsErrOr Q (current_or (first_refusal ((off, jet.NoCurrentRecord) ∷ (gone, jet.RecordDeleted) ∷ [])) c)
current-each Q c true gone one two = one
current-each Q c false true one two = two
current-each Q c false false one two = tt

cursor-each : (Q : Jet → Type 0) (asked : CallInputs) (found : Option OpenCursor) → Q jet.InvalidTableId → Q jet.NoCurrentRecord → Q jet.RecordDeleted → IsErrOr Q (current_cursor asked found)
cursor-each Q asked None unknown off gone = unknown
cursor-each Q asked (Some c) unknown off gone = current-each Q c (not (is_on c.cursor.place)) (is_none (row_at (rows_seen asked c) (place_bookmark c.cursor.place))) off gone

-- what holds of each of the three refusals holds of the one that is given
pub cursors-each : (Q : Jet → Type 0) (asked : CallInputs) (labels : List CursorId) → Q jet.InvalidTableId → Q jet.NoCurrentRecord → Q jet.RecordDeleted → IsErrOr Q (current_cursors asked labels)
cursors-each Q asked [] unknown off gone = tt
cursors-each Q asked (label ∷ labels) unknown off gone =
    joined-each Q (current_cursor asked (cursor_labelled asked.local label.0)) (current_cursors asked labels)
    (cursor-each Q asked (cursor_labelled asked.local label.0) unknown off gone)
    (cursors-each Q asked labels unknown off gone)
