-- The calls that move a cursor or read, and do nothing else.
use Rattle.std.specs.Prelude.{Bool, true, false}
use Rattle.session_local.specs.declared.request.Request.{Request}
use Rattle.session_local.specs.declared.request.Request.TheVariants as call

abbrev pub is_reading : Request → Bool
is_reading (call.Move cursor way) = true
is_reading (call.Seek cursor by) = true
is_reading (call.SetIndexRange cursor upper inclusive) = true
is_reading (call.SetCurrentIndex cursor index) = true
is_reading (call.GotoBookmark cursor bookmark) = true
is_reading (call.IndexRecordCount cursor most) = true
is_reading (call.RetrieveKey cursor) = true
is_reading (call.GetBookmark cursor) = true
is_reading (call.RetrieveColumn cursor column sequence copy most) = true
is_reading _ = false
