-- What two frequent calls read behind their cursor, where their last word is what is left of the line.
use Rattle.std.specs.Prelude.{ℕ, false, List, Option, Some}
use Rattle.jet_base.specs.declared.ids.CursorId.{CursorId}
use Rattle.session_local.specs.declared.request.Request.{Request}
use Rattle.session_local.specs.declared.request.Request.TheVariants as call
use Rattle.script_words.specs.Words.{◌>>=◌, name_of}
use Rattle.script_words.specs.Values.{given_of}

-- `SetColumn c C SEQ VALUE`, of which SEQ is read
abbrev pub set_reading : CursorId → List ℕ → ℕ → List ℕ → Option Request
set_reading cursor column sequence value = do
  name ← name_of column
  given ← given_of value
  Some (call.SetColumn cursor name sequence given)

-- `RetrieveColumn c C SEQ`, of which SEQ is read
abbrev pub retrieve_reading : CursorId → List ℕ → ℕ → Option Request
retrieve_reading cursor column sequence = do
  name ← name_of column
  Some (call.RetrieveColumn cursor name sequence false 255)
