-- What each call reads of the words behind its name.
use Rattle.std.specs.Prelude.{ℕ, List, Option, Some, None}
use Rattle.jet_base.specs.declared.ids.CursorId.{CursorId}
use Rattle.session_local.specs.declared.request.Request.{Request}
use Rattle.session_local.specs.declared.request.Request.TheVariants as call
use Rattle.script_text.specs.declared.call_names.CursorCall.{CursorCall}
use Rattle.script_text.specs.declared.call_names.CursorCall.TheVariants as cursor_name
use Rattle.script_text.specs.declared.call_names.CallName.{CallName}
use Rattle.script_text.specs.declared.call_names.CallName.TheVariants as name
use Rattle.script_words.specs.Words.{◌>>=◌}
use Rattle.script_text.specs.Calls.{bare_call, only_cursor, cursor_call, table_call, part_call, commit_call, rollback_call, add_column_call, create_index_call, open_table_call, set_current_index_call, make_key_call, move_call, seek_call, set_index_range_call, count_call, goto_bookmark_call, prepare_update_call, set_column_call, retrieve_column_call, escrow_update_call, temp_open_call, temp_put_call, temp_move_call, temp_read_call, intersect_indexes_call}

-- the reading of a cursor's call, behind the label of the cursor
abbrev pub cursor_reading : CursorCall → CursorId → List (List ℕ) → Option Request
cursor_reading cursor_name.OpenTable = open_table_call
cursor_reading cursor_name.CloseTable = only_cursor call.CloseTable
cursor_reading cursor_name.SetCurrentIndex = set_current_index_call
cursor_reading cursor_name.MakeKey = make_key_call
cursor_reading cursor_name.Move = move_call
cursor_reading cursor_name.Seek = seek_call
cursor_reading cursor_name.SetIndexRange = set_index_range_call
cursor_reading cursor_name.IndexRecordCount = count_call
cursor_reading cursor_name.RetrieveKey = only_cursor call.RetrieveKey
cursor_reading cursor_name.GetBookmark = only_cursor call.GetBookmark
cursor_reading cursor_name.GotoBookmark = goto_bookmark_call
cursor_reading cursor_name.PrepareUpdate = prepare_update_call
cursor_reading cursor_name.SetColumn = set_column_call
cursor_reading cursor_name.RetrieveColumn = retrieve_column_call
cursor_reading cursor_name.Update = only_cursor call.Update
cursor_reading cursor_name.Delete = only_cursor call.Delete
cursor_reading cursor_name.GetLock = only_cursor call.GetLock
cursor_reading cursor_name.EscrowUpdate = escrow_update_call
cursor_reading cursor_name.TempOpen = temp_open_call
cursor_reading cursor_name.TempPut = temp_put_call
cursor_reading cursor_name.TempMove = temp_move_call
cursor_reading cursor_name.TempRead = temp_read_call
cursor_reading cursor_name.TempCount = only_cursor call.TempCount
cursor_reading cursor_name.TempClose = only_cursor call.TempClose
cursor_reading cursor_name.IntersectIndexes = intersect_indexes_call

-- the reading of a call
abbrev pub reading : CallName → List (List ℕ) → Option Request
reading name.BeginSession = bare_call call.BeginSession
reading name.EndSession = bare_call call.EndSession
reading name.BeginTransaction = bare_call call.BeginTransaction
reading name.CommitTransaction = commit_call
reading name.Rollback = rollback_call
reading name.CreateTable = table_call call.CreateTable
reading name.DeleteTable = table_call call.DeleteTable
reading name.AddColumn = add_column_call
reading name.DeleteColumn = part_call call.DeleteColumn
reading name.CreateIndex = create_index_call
reading name.DeleteIndex = part_call call.DeleteIndex
reading (name.OfCursor cursor) = cursor_call (cursor_reading cursor)

-- the same of a name that may be that of no call
abbrev pub cursor_read_by : Option CursorCall → CursorId → List (List ℕ) → Option Request
cursor_read_by None cursor words = None
cursor_read_by (Some name) cursor words = cursor_reading name cursor words

abbrev pub read_by : Option CallName → List (List ℕ) → Option Request
read_by None words = None
read_by (Some name) words = reading name words

-- a call that is read, if there is one, with the session that makes it
abbrev pub said_by : ℕ → Option Request → Option (ℕ × Request)
said_by session reading = reading >>= λ request. Some (session, request)
