-- The lines of a transcript, byte by byte, and the order of its rows.
use Rattle.std.specs.Prelude.{IsTrue, ℕ, ◌/◌, ◌%◌, Bool, true, false, ◌&&◌, ◌||◌, ◌==◌, nat_le, nat_lt, if◌then◌else◌, List, [], ◌∷◌, ◌++◌, codes}
use Rattle.std.specs.Char.{digit_char}
use Rattle.std.specs.Fmt.{decimal, signed_decimal}
use Rattle.std.specs.List.{flat_map}
use Rattle.jet_base.specs.JetName.{jet_name}
use Rattle.jet_base.specs.declared.replies.Jet.{Jet}
use Rattle.jet_base.specs.declared.replies.Jet.TheVariants as jet
use Rattle.session_local.specs.declared.reply.Reply.{Reply}
use Rattle.session_local.specs.declared.reply.Value.{Value}
use Rattle.session_local.specs.declared.reply.Value.TheVariants as value
use Rattle.session_local.specs.declared.request.Request.{Request}
use Rattle.session_local.specs.declared.request.Request.TheVariants as call
use Rattle.session_local.specs.CallNames as named
use Rattle.session_local.specs.Answer.{ShownValue, Nothing, Number, Count, Bytes, Answered, Row, answered_by}

-- the name of a call, as the grammar has it
abbrev pub call_name : Request → List ℕ
call_name call.BeginSession = named.begin_session
call_name call.EndSession = named.end_session
call_name call.BeginTransaction = named.begin_transaction
call_name (call.CommitTransaction lazy) = named.commit_transaction
call_name (call.Rollback all) = named.rollback
call_name (call.CreateTable table) = named.create_table
call_name (call.DeleteTable table) = named.delete_table
call_name (call.AddColumn table column type flags) = named.add_column
call_name (call.DeleteColumn table column) = named.delete_column
call_name (call.CreateIndex table index flags most segments conditions) = named.create_index
call_name (call.DeleteIndex table index) = named.delete_index
call_name (call.OpenTable cursor table) = named.open_table
call_name (call.CloseTable cursor) = named.close_table
call_name (call.SetCurrentIndex cursor index) = named.set_current_index
call_name (call.Move cursor way) = named.move
call_name (call.MakeKey cursor fresh value) = named.make_key
call_name (call.Seek cursor by) = named.seek
call_name (call.SetIndexRange cursor upper inclusive) = named.set_index_range
call_name (call.RemoveIndexRange cursor) = named.set_index_range
call_name (call.IndexRecordCount cursor most) = named.index_record_count
call_name (call.RetrieveKey cursor) = named.retrieve_key
call_name (call.GetBookmark cursor) = named.get_bookmark
call_name (call.GotoBookmark cursor bookmark) = named.goto_bookmark
call_name (call.PrepareUpdate cursor how) = named.prepare_update
call_name (call.SetColumn cursor column sequence value) = named.set_column
call_name (call.RetrieveColumn cursor column sequence copy most) = named.retrieve_column
call_name (call.Update cursor) = named.update
call_name (call.Delete cursor) = named.delete
call_name (call.GetLock cursor) = named.get_lock
call_name (call.EscrowUpdate cursor column amount) = named.escrow_update
call_name (call.TempOpen temp unique columns) = named.temp_open
call_name (call.TempPut temp values) = named.temp_put
call_name (call.TempMove temp way) = named.temp_move
call_name (call.TempRead temp column) = named.temp_read
call_name (call.TempCount temp) = named.temp_count
call_name (call.TempClose temp) = named.temp_close
call_name (call.IntersectIndexes temp cursors) = named.intersect_indexes

-- a byte as two hexadecimal digits, the high one first, with lower case letters
abbrev pub byte_digits : ℕ → List ℕ
byte_digits byte = digit_char (byte / 16) ∷ digit_char (byte % 16) ∷ []

-- whether the reply says that not all of the value is shown
abbrev pub is_truncated : Jet → Bool
is_truncated jet.BufferTruncated = true
is_truncated _ = false

-- what stands behind the name of a reply: nothing, ` n:` and a number, a space and a count, or ` x:` and the bytes as
-- digits, before which a space and the whole length stand where the value is truncated
unfoldable pub shown_text : Jet → ShownValue → List ℕ
shown_text reply Nothing = []
shown_text reply (Number number) = codes " n:" ++ signed_decimal number
shown_text reply (Count count) = codes " " ++ decimal count
shown_text reply (Bytes bytes whole) = (if is_truncated reply then codes " " ++ decimal whole else []) ++ (codes " x:" ++ flat_map byte_digits bytes)

-- what a line begins with: the number and the session, with a space between them
abbrev pub line_head : ℕ → ℕ → List ℕ
line_head n session = decimal n ++ codes " " ++ decimal session

-- what stands behind that: the call and the answer, each behind a space, and byte 0A
abbrev pub answer_behind_head : Request → Answered → List ℕ
answer_behind_head request answered =
    codes " " ++ call_name request ++ codes " " ++ jet_name answered.jet ++ shown_text answered.jet answered.shown ++ (10 ∷ [])

-- a transcript line: the number, the session, the call and the answer, with a space between two of them, and byte 0A
unfoldable pub answer_line : ℕ → ℕ → Request → Answered → List ℕ
answer_line n session request answered =
    decimal n ++ codes " " ++ decimal session ++ codes " " ++ call_name request ++ codes " " ++ jet_name answered.jet
    ++ shown_text answered.jet answered.shown ++ (10 ∷ [])

-- the same of a reply whose bytes lie in a buffer
abbrev pub transcript_line : ℕ → ℕ → Request → Reply → List ℕ → List ℕ
transcript_line n session request reply buffer = answer_line n session request (answered_by reply buffer)

-- the line of a row
abbrev pub row_line : Row → List ℕ
row_line row = answer_line row.n row.session row.request row.answered

-- the bytes of a transcript
abbrev pub transcript_of : List Row → List ℕ
transcript_of rows = flat_map row_line rows

-- whether a row is not to stand behind another: by number, and then by session
abbrev pub may_precede : Row → Row → Bool
may_precede a b = nat_lt a.n b.n || (a.n == b.n && nat_le a.session b.session)

-- a row put before the first of the rows that it may precede
abbrev pub put_row : Row → List Row → List Row
put_row row [] = row ∷ []
put_row row (first ∷ rows) = if may_precede row first then row ∷ first ∷ rows else first ∷ put_row row rows

-- the rows by number and then by session; those of one session and number stay in their order
abbrev pub merged : List Row → List Row
merged [] = []
merged (row ∷ rows) = put_row row (merged rows)

-- whether a value names at most so many bytes of a buffer
abbrev pub names_at_most : Value → ℕ → Bool
names_at_most (value.Bytes count whole) most = nat_le count most
names_at_most _ most = true

-- a reply names no more bytes than its buffer has
abbrev pub NamesNoMore : Reply → ℕ → Type 0
NamesNoMore reply most = IsTrue (names_at_most reply.value most)
