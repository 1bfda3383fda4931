-- The calls that a session answers by itself, from its own state alone.
use Rattle.std.specs.Prelude.{◌≡◌, ℕ, Bool, true, false, not, ◌||◌, List, Option, Some, None, Result, Ok, Err, is_some, is_none, if◌then◌else◌}
use Rattle.jet_base.specs.declared.replies.Jet.{Jet}
use Rattle.jet_base.specs.declared.replies.Jet.TheVariants as jet
use Rattle.jet_base.specs.declared.memory.OutOfMemory.{OutOfMemory}
use Rattle.jet_base.specs.declared.words.Prepare.TheVariants as prepare
use Rattle.jet_base.specs.declared.ids.CursorId.{CursorId}
use Rattle.session_local.specs.declared.open_temp.OpenTemp.{OpenTemp}
use Rattle.session_local.specs.declared.request.Request.{Request}
use Rattle.session_local.specs.declared.request.Request.TheVariants as call
use Rattle.session_local.specs.declared.reply.Reply.{Reply}
use Rattle.session_local.specs.declared.reply.Value.TheVariants as value
use Rattle.session_local.specs.Answer.{Answered, answered_by}
use Rattle.session_local.specs.Local.{LocalState, cursor_labelled, temp_labelled}
use Rattle.session_local.specs.SessionSide.{HeldState}
use Rattle.session_local.specs.Holding.{local_of}
use Rattle.session_local.specs.Outcome.{CallInputs}
use Rattle.session_local.specs.Calls.{answer, answer_begun, is_always_local}

-- the label of the cursor that a call is made at
abbrev pub cursor_of : Request → Option ℕ
cursor_of (call.CloseTable cursor) = Some cursor.0
cursor_of (call.SetCurrentIndex cursor index) = Some cursor.0
cursor_of (call.Move cursor way) = Some cursor.0
cursor_of (call.MakeKey cursor fresh value) = Some cursor.0
cursor_of (call.Seek cursor by) = Some cursor.0
cursor_of (call.SetIndexRange cursor upper inclusive) = Some cursor.0
cursor_of (call.RemoveIndexRange cursor) = Some cursor.0
cursor_of (call.IndexRecordCount cursor most) = Some cursor.0
cursor_of (call.RetrieveKey cursor) = Some cursor.0
cursor_of (call.GetBookmark cursor) = Some cursor.0
cursor_of (call.GotoBookmark cursor bookmark) = Some cursor.0
cursor_of (call.PrepareUpdate cursor how) = Some cursor.0
cursor_of (call.SetColumn cursor column sequence value) = Some cursor.0
cursor_of (call.RetrieveColumn cursor column sequence copy most) = Some cursor.0
cursor_of (call.Update cursor) = Some cursor.0
cursor_of (call.Delete cursor) = Some cursor.0
cursor_of (call.GetLock cursor) = Some cursor.0
cursor_of (call.EscrowUpdate cursor column amount) = Some cursor.0
cursor_of _ = None

-- whether the call is made at a cursor that the session does not have
abbrev pub lacks_cursor : LocalState → Option ℕ → Bool
lacks_cursor local None = false
lacks_cursor local (Some label) = is_none (cursor_labelled local label)

abbrev pub is_answered_begun : LocalState → Request → Bool
is_answered_begun local call.BeginSession = true
is_answered_begun local (call.OpenTable cursor table) = is_some (cursor_labelled local cursor.0)
is_answered_begun local (call.IntersectIndexes temp cursors) = is_some (temp_labelled local.temps temp)
is_answered_begun local request = is_always_local request || lacks_cursor local (cursor_of request)

abbrev pub is_begin : Request → Bool
is_begin call.BeginSession = true
is_begin _ = false

-- Whether a session answers the call by itself: a session that was not begun refuses all but BeginSession, and one that was
-- refuses BeginSession, a label that is taken, and that of a cursor that it does not have, and answers the calls that are always
-- local. An IntersectIndexes with a label that no cursor has is not among these, since it looks at the cursors in turn, and at the
-- record of one before it looks at the label of the next.
abbrev pub is_answered_locally : LocalState → Request → Bool
is_answered_locally local request = elim local.begun [ true ↦ is_answered_begun local request | false ↦ not (is_begin request) ]

-- the local calls that take memory
abbrev pub takes_memory : Request → Bool
takes_memory (call.SetColumn cursor column sequence value) = true
takes_memory (call.PrepareUpdate cursor prepare.Insert) = true
takes_memory (call.TempOpen temp unique columns) = true
takes_memory (call.TempPut temp values) = true
takes_memory _ = false

-- The definitions answer so and leave this state, whatever the limit, the database and the label of the session are.
abbrev pub IsAnswer : LocalState → Request → Answered → LocalState → Type 0
IsAnswer local request answered after =
    (asked : CallInputs) → asked.local ≡ local → ((answer asked request).answered ≡ answered) × ((answer asked request).local ≡ after)

-- ---- what the code does

abbrev pub plain : Jet → Reply
plain reply = record { jet = reply; value = value.Nothing }

-- the reply of a session that was not begun
abbrev pub reply_not_begun : Request → Option Reply
reply_not_begun call.BeginSession = None
reply_not_begun _ = Some (plain jet.InvalidSesid)

-- the reply to an IntersectIndexes that a session answers by itself
abbrev pub reply_if_taken : List OpenTemp → CursorId → Option Reply
reply_if_taken temps label = if is_some (temp_labelled temps label) then Some (plain jet.InvalidTableId) else None

-- what the code does with a call, once the session was begun
abbrev pub StepsBy : HeldState → Request → Result (Option Reply) OutOfMemory → HeldState → Type 0
StepsBy old request (Ok (Some reply)) new =
    (is_answered_begun (local_of old) request ≡ true)
    × ((asked : CallInputs) → asked.local ≡ local_of old →
    ((answer_begun asked request).answered ≡ answered_by reply new.reply) × ((answer_begun asked request).local ≡ local_of new))
StepsBy old request (Ok None) new = (is_answered_begun (local_of old) request ≡ false) × (new ≡ old)
StepsBy old request (Err e) new = new ≡ old
