-- The answer to every call.
use Rattle.std.specs.Prelude.{Bool, true, false, ◌||◌}
use Rattle.jet_base.specs.declared.replies.Jet.{Jet}
use Rattle.jet_base.specs.declared.replies.Jet.TheVariants as jet
use Rattle.jet_base.specs.declared.words.Prepare.{Prepare}
use Rattle.jet_base.specs.declared.words.Prepare.TheVariants as prepare
use Rattle.database_state.specs.SchemaSteps.{table_step, deleted_table_step, column_step, deleted_column_step, index_step, deleted_index_step}
use Rattle.session_local.specs.declared.request.Request.{Request}
use Rattle.session_local.specs.declared.request.Request.TheVariants as call
use Rattle.session_local.specs.Local.{OpenCursor}
use Rattle.session_local.specs.Outcome.{CallInputs, Outcome, refused, at_cursor}
use Rattle.session_local.specs.SessionCalls.{begin_session, end_session, begin_transaction, commit_transaction, rollback}
use Rattle.session_local.specs.SchemaCalls.{schema_changed}
use Rattle.session_local.specs.CursorCalls.{open_table, close_table, set_current_index, move_cursor, seek_key, set_index_range, remove_index_range, make_key, index_record_count, retrieve_key, get_bookmark, goto_bookmark}
use Rattle.session_local.specs.RecordCalls.{prepare_insert, prepare_copy, prepare_replace, cancel_update, set_column, retrieve_column, retrieve_copy, update, delete, get_lock, escrow_update}
use Rattle.session_local.specs.IntersectCalls.{intersect_indexes}
use Rattle.session_local.specs.TempCalls.{of_temps, temp_open, temp_put, temp_move, temp_read, temp_count, temp_close}

abbrev pub prepare_update : CallInputs → OpenCursor → Prepare → Outcome
prepare_update asked open_cursor prepare.Insert = prepare_insert asked open_cursor
prepare_update asked open_cursor prepare.InsertCopy = prepare_copy asked open_cursor
prepare_update asked open_cursor prepare.Replace = prepare_replace asked open_cursor
prepare_update asked open_cursor prepare.Cancel = cancel_update asked open_cursor

-- what a session that was begun is answered
abbrev pub answer_begun : CallInputs → Request → Outcome
answer_begun asked call.BeginSession = begin_session asked
answer_begun asked call.EndSession = end_session asked
answer_begun asked call.BeginTransaction = begin_transaction asked
answer_begun asked (call.CommitTransaction lazy) = commit_transaction asked
answer_begun asked (call.Rollback all) = rollback asked all
answer_begun asked (call.CreateTable table) = schema_changed asked (table_step asked.state table)
answer_begun asked (call.DeleteTable table) = schema_changed asked (deleted_table_step asked.state table)
answer_begun asked (call.AddColumn table column kind flags) = schema_changed asked (column_step asked.state table column kind flags)
answer_begun asked (call.DeleteColumn table column) = schema_changed asked (deleted_column_step asked.state table column)
answer_begun asked (call.CreateIndex table index flags key_most segments conditions) = schema_changed asked (index_step asked.state table index flags key_most segments conditions)
answer_begun asked (call.DeleteIndex table index) = schema_changed asked (deleted_index_step asked.state table index)
answer_begun asked (call.OpenTable cursor table) = open_table asked cursor.0 table
answer_begun asked (call.CloseTable cursor) = at_cursor asked cursor.0 (close_table asked)
answer_begun asked (call.SetCurrentIndex cursor index) = at_cursor asked cursor.0 (λ c. set_current_index asked c index)
answer_begun asked (call.Move cursor to) = at_cursor asked cursor.0 (λ c. move_cursor asked c to)
answer_begun asked (call.MakeKey cursor fresh value) = at_cursor asked cursor.0 (λ c. make_key asked c fresh value)
answer_begun asked (call.Seek cursor by) = at_cursor asked cursor.0 (λ c. seek_key asked c by)
answer_begun asked (call.SetIndexRange cursor upper inclusive) = at_cursor asked cursor.0 (λ c. set_index_range asked c upper inclusive)
answer_begun asked (call.RemoveIndexRange cursor) = at_cursor asked cursor.0 (remove_index_range asked)
answer_begun asked (call.IndexRecordCount cursor most) = at_cursor asked cursor.0 (λ c. index_record_count asked c most)
answer_begun asked (call.RetrieveKey cursor) = at_cursor asked cursor.0 (retrieve_key asked)
answer_begun asked (call.GetBookmark cursor) = at_cursor asked cursor.0 (get_bookmark asked)
answer_begun asked (call.GotoBookmark cursor bookmark) = at_cursor asked cursor.0 (λ c. goto_bookmark asked c bookmark)
answer_begun asked (call.PrepareUpdate cursor how) = at_cursor asked cursor.0 (λ c. prepare_update asked c how)
answer_begun asked (call.SetColumn cursor column sequence value) = at_cursor asked cursor.0 (λ c. set_column asked c column sequence value)
answer_begun asked (call.RetrieveColumn cursor column sequence copy most) =
    at_cursor asked cursor.0 (λ c. elim copy [ true ↦ retrieve_copy asked c column sequence most | false ↦ retrieve_column asked c column sequence most ])
answer_begun asked (call.Update cursor) = at_cursor asked cursor.0 (update asked)
answer_begun asked (call.Delete cursor) = at_cursor asked cursor.0 (delete asked)
answer_begun asked (call.GetLock cursor) = at_cursor asked cursor.0 (get_lock asked)
answer_begun asked (call.EscrowUpdate cursor column amount) = at_cursor asked cursor.0 (λ c. escrow_update asked c column amount)
answer_begun asked (call.TempOpen temp unique columns) = of_temps asked (temp_open asked.local.temps temp unique columns)
answer_begun asked (call.TempPut temp values) = of_temps asked (temp_put asked.local.temps temp values)
answer_begun asked (call.TempMove temp way) = of_temps asked (temp_move asked.local.temps temp way)
answer_begun asked (call.TempRead temp column) = of_temps asked (temp_read asked.local.temps temp column)
answer_begun asked (call.TempCount temp) = of_temps asked (temp_count asked.local.temps temp)
answer_begun asked (call.TempClose temp) = of_temps asked (temp_close asked.local.temps temp)
answer_begun asked (call.IntersectIndexes temp cursors) = intersect_indexes asked temp cursors

abbrev pub answer_not_begun : CallInputs → Request → Outcome
answer_not_begun asked call.BeginSession = begin_session asked
answer_not_begun asked _ = refused asked jet.InvalidSesid

-- The answer to a call: the reply, the session's own state afterwards, and the step that the log takes.
unfoldable pub answer : CallInputs → Request → Outcome
answer asked request = elim asked.local.begun [ true ↦ answer_begun asked request | false ↦ answer_not_begun asked request ]

-- ---- local calls

-- the calls that touch no shared state, whatever they answer
abbrev pub is_always_local : Request → Bool
is_always_local (call.MakeKey cursor fresh value) = true
is_always_local (call.RemoveIndexRange cursor) = true
is_always_local (call.SetColumn cursor column sequence value) = true
is_always_local (call.RetrieveColumn cursor column sequence copy most) = copy
is_always_local (call.PrepareUpdate cursor prepare.Insert) = true
is_always_local (call.PrepareUpdate cursor prepare.Cancel) = true
is_always_local (call.TempOpen temp unique columns) = true
is_always_local (call.TempPut temp values) = true
is_always_local (call.TempMove temp way) = true
is_always_local (call.TempRead temp column) = true
is_always_local (call.TempCount temp) = true
is_always_local (call.TempClose temp) = true
is_always_local _ = false

-- the replies that a session gives without a look at the shared state
abbrev pub is_local_reply : Jet → Bool
is_local_reply jet.InvalidSesid = true
is_local_reply jet.SessionInUse = true
is_local_reply jet.InvalidTableId = true
is_local_reply _ = false

abbrev pub is_local : Request → Jet → Bool
is_local request reply = is_always_local request || is_local_reply reply
