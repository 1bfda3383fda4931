-- What a session's own state comes to after a call that was decided on the shared state.
use Rattle.std.specs.Prelude.{ℕ, Bool, true, false, not, ◌||◌, nat_le, List, [], ◌∷◌, ◌++◌, length, Option, Some, None, option_map, is_some, if◌then◌else◌}
use Rattle.jet_base.specs.declared.replies.Jet.{Jet}
use Rattle.jet_base.specs.declared.replies.Jet.TheVariants as jet
use Rattle.jet_base.specs.declared.words.Prepare.TheVariants as prepare
use Rattle.index_derive.specs.declared.rules.Schema.{Schema}
use Rattle.index_derive.specs.declared.log.EntryKind.{EntryKind}
use Rattle.index_derive.specs.declared.log.EntryKind.TheVariants as entry
use Rattle.index_derive.specs.declared.log.Step.{Step}
use Rattle.index_derive.specs.declared.log.Step.TheVariants.{One}
use Rattle.cursor_nav.specs.Navigation.{new_cursor}
use Rattle.jet_base.specs.declared.ids.CursorId.{CursorId}
use Rattle.temp_table.specs.TempRows.{TempRows}
use Rattle.session_local.specs.declared.open_temp.OpenTemp.{OpenTemp}
use Rattle.database_state.specs.Table.{schema_of, primary_order, table_named}
use Rattle.session_local.specs.declared.request.Request.{Request}
use Rattle.session_local.specs.declared.request.Request.TheVariants as call
use Rattle.session_local.specs.Local.{LocalState, OpenCursor, PreparedUpdate, new_session, no_session, cursor_labelled, temp_labelled, with_cursor, with_new_cursor, without_cursor, without_prepared}
use Rattle.session_local.specs.Outcome.{CallInputs, Outcome}
use Rattle.session_local.specs.Calls.{answer}

-- What was decided, as far as it concerns the session's own state: the step of the log, the table that was opened with its
-- schema, the prepared update that was copied from a record, the temporary table that was filled, and whether the buffers of a
-- session were taken.
pub record Decided : Type 0 where
  pub step : Option Step
  pub table : Option (ℕ × Schema)
  pub copied : Option PreparedUpdate
  pub temp : Option TempRows
  pub buffers : Bool

-- ---- what a step leaves

-- what stands after a step, and what stands without one
abbrev pub after_step : Option Step → LocalState → LocalState → LocalState
after_step None without after = without
after_step (Some step) without after = after

abbrev pub is_release_kind : EntryKind → Bool
is_release_kind entry.Release = true
is_release_kind _ = false

-- the commit of an inner level
abbrev pub is_release : Option Step → Bool
is_release (Some (One made)) = is_release_kind made.kind
is_release _ = false

abbrev pub begun_with : Bool → LocalState → LocalState
begun_with buffers local = if buffers then new_session else local

-- a cursor of this label has this update prepared
abbrev pub with_update_on : LocalState → Option OpenCursor → Option PreparedUpdate → LocalState
with_update_on local None prepared = local
with_update_on local (Some open_cursor) prepared = with_cursor local (record open_cursor { prepared = prepared })

abbrev pub with_update_at : LocalState → ℕ → Option PreparedUpdate → LocalState
with_update_at local label prepared = with_update_on local (cursor_labelled local label) prepared

-- a new cursor on the table that was opened
abbrev pub opened_cursor : ℕ → ℕ × Schema → OpenCursor
opened_cursor label table = record { label = label; schema = table.1; cursor = new_cursor table.0 (primary_order table.1); prepared = None }

-- Only a session that was begun opens a cursor. A label that is taken is not opened again, nor a seventeenth cursor.
abbrev pub with_opened : LocalState → ℕ → Option (ℕ × Schema) → LocalState
with_opened local label None = local
with_opened local label (Some table) =
    if not local.begun || (is_some (cursor_labelled local label) || nat_le 16 (length local.cursors)) then local
    else with_new_cursor local (opened_cursor label table)

abbrev pub with_copied : LocalState → ℕ → Option PreparedUpdate → LocalState
with_copied local label None = local
with_copied local label (Some copied) = with_update_at local label (Some copied)

-- A table that was filled is open under its label. A label that is taken is not opened again, nor a fifth table.
abbrev pub temps_with : List OpenTemp → CursorId → TempRows → List OpenTemp
temps_with temps label table = if is_some (temp_labelled temps label) || nat_le 4 (length temps) then temps else temps ++ record { label = label; table = table } ∷ []

-- Only a session that was begun has temporary tables.
abbrev pub with_filled : LocalState → CursorId → Option TempRows → LocalState
with_filled local label None = local
with_filled local label (Some table) = if local.begun then record local { temps = temps_with local.temps label table } else local

-- The session's own state after the call. A call that was refused made no step and copied and filled nothing, so that all stays
-- as it was. The calls that move a cursor have moved it already.
abbrev pub finished : LocalState → Request → Decided → LocalState
finished local call.BeginSession decided = after_step decided.step local (begun_with decided.buffers local)
finished local call.EndSession decided = after_step decided.step local no_session
finished local (call.CommitTransaction lazy) decided =
    after_step decided.step local (if is_release decided.step then local else without_prepared local)
finished local (call.Rollback all) decided = after_step decided.step local (without_prepared local)
finished local (call.OpenTable cursor table) decided = after_step decided.step local (with_opened local cursor.0 decided.table)
finished local (call.CloseTable cursor) decided = after_step decided.step local (without_cursor local cursor.0)
finished local (call.PrepareUpdate cursor how) decided = with_copied local cursor.0 decided.copied
finished local (call.IntersectIndexes temp cursors) decided = with_filled local temp decided.temp
finished local (call.Update cursor) decided = after_step decided.step local (with_update_at local cursor.0 None)
finished local _ decided = local

-- ---- what an answer decides

abbrev pub table_opened : CallInputs → Request → Option (ℕ × Schema)
table_opened asked (call.OpenTable cursor table) = option_map (λ t. (t.id, schema_of t)) (table_named asked.state.tables table)
table_opened asked _ = None

abbrev pub prepared_on : Option OpenCursor → Option PreparedUpdate
prepared_on None = None
prepared_on (Some open_cursor) = open_cursor.prepared

abbrev pub if_success : Jet → Option PreparedUpdate → Option PreparedUpdate
if_success jet.Success prepared = prepared
if_success _ prepared = None

-- the update that a call prepared with success
abbrev pub update_copied : Request → Outcome → Option PreparedUpdate
update_copied (call.PrepareUpdate cursor how) outcome = if_success outcome.answered.jet (prepared_on (cursor_labelled outcome.local cursor.0))
update_copied _ outcome = None

abbrev pub filled_if_success : Jet → Option OpenTemp → Option TempRows
filled_if_success jet.Success found = option_map (λ temp. temp.table) found
filled_if_success _ found = None

-- the temporary table that a call filled with success
abbrev pub temp_filled : Request → Outcome → Option TempRows
temp_filled (call.IntersectIndexes temp cursors) outcome = filled_if_success outcome.answered.jet (temp_labelled outcome.local.temps temp)
temp_filled _ outcome = None

abbrev pub decided_of : CallInputs → Request → Outcome → Decided
decided_of asked request outcome = record {
  step = outcome.step;
  table = table_opened asked request;
  copied = update_copied request outcome;
  temp = temp_filled request outcome;
  buffers = true;
}

abbrev pub decided_by : CallInputs → Request → Decided
decided_by asked request = decided_of asked request (answer asked request)

-- the calls that may be decided on the shared state and move no cursor
abbrev pub is_finished : Request → Bool
is_finished (call.SetCurrentIndex cursor index) = false
is_finished (call.Move cursor way) = false
is_finished (call.MakeKey cursor fresh value) = false
is_finished (call.Seek cursor by) = false
is_finished (call.SetIndexRange cursor upper inclusive) = false
is_finished (call.RemoveIndexRange cursor) = false
is_finished (call.GotoBookmark cursor bookmark) = false
is_finished (call.PrepareUpdate cursor prepare.Insert) = false
is_finished (call.PrepareUpdate cursor prepare.Cancel) = false
is_finished (call.SetColumn cursor column sequence value) = false
is_finished (call.TempOpen temp unique columns) = false
is_finished (call.TempPut temp values) = false
is_finished (call.TempMove temp way) = false
is_finished (call.TempRead temp column) = false
is_finished (call.TempCount temp) = false
is_finished (call.TempClose temp) = false
is_finished _ = true
