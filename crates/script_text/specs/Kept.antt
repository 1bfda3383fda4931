-- The calls of the lines that are read so far, and one more.
use Rattle.std.specs.Prelude.{ℕ, List, [], ◌∷◌, ◌++◌, Option, Some}
use Rattle.jet_base.specs.declared.ids.Session.{Session}
use Rattle.session_local.specs.declared.request.Request.{Request}
use Rattle.script_text.specs.declared.kept.Calls.TheInside as kept
use Rattle.script_text.specs.Pieces.{calls_in}
use Rattle.script_words.specs.Words.{◌>>=◌}

-- the session of the line that is being read, and the calls so far, each with its session
pub record KeptCalls : Type 0 where
  pub session : Session
  pub calls : List (Session × Request)

abbrev pub kept_calls : kept.Inside → KeptCalls
kept_calls inside = record { session = inside.session; calls = calls_in inside.full.items ++ inside.last.calls }

-- the calls so far with one more behind them
abbrev pub kept_behind : KeptCalls → Request → Option KeptCalls
kept_behind kept request = Some (record kept { calls = kept.calls ++ (kept.session, request) ∷ [] })

-- the same with a call that is read, where there is one
abbrev pub calls_with : KeptCalls → Option Request → Option KeptCalls
calls_with kept reading = reading >>= kept_behind kept

-- the calls so far, for a line of this session
abbrev pub for_line : KeptCalls → ℕ → KeptCalls
for_line kept session = record kept { session = record { 0 = session } }

-- the calls so far with that of a line behind them
abbrev pub kept_line : KeptCalls → ℕ × Request → Option KeptCalls
kept_line kept said = kept_behind (for_line kept said.0) said.1

abbrev pub calls_with_line : KeptCalls → Option (ℕ × Request) → Option KeptCalls
calls_with_line kept reading = reading >>= kept_line kept
