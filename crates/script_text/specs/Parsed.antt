-- What the parsed calls of a script are seen as.
use Rattle.std.specs.Prelude.{ℕ, List, map}
use Rattle.jet_base.specs.declared.ids.Session.{Session}
use Rattle.session_local.specs.declared.request.Request.{Request}

abbrev pub call_of : Session × Request → ℕ × Request
call_of call = (call.0.0, call.1)

-- the calls, each with the label of its session
abbrev pub calls_of : List (Session × Request) → List (ℕ × Request)
calls_of calls = map call_of calls
