-- The engine of a script among the lines of a run.
use Rattle.std.specs.Prelude.{◌≡◌, ℕ, true, List}
use Rattle.jet_base.specs.declared.ids.Session.{Session}
use Rattle.session_local.specs.Run.{RunState, Line}
use Rattle.script_text.specs.Built.{are_built}
use Rattle.laws_engine.specs.EngineState.{EngineState}
use Rattle.ordered_run.specs.declared.session_engine.SessionEngine.{SessionEngine}
use Rattle.ordered_run.specs.SessionRun.{reply_bytes, IsInRun}

-- the engine that serves
abbrev pub run_engine : {E : Type 0} → SessionEngine E → E
run_engine engine = engine.engine

-- the limit of the version store's span that it was made with
abbrev pub span_limit : {E : Type 0} → (E → EngineState) → SessionEngine E → ℕ
span_limit held engine = (held engine.engine).limit

-- what stands in the reply buffer of a session
abbrev pub reply_of : {E : Type 0} → SessionEngine E → Session → List ℕ
reply_of engine session = reply_bytes engine.sessions session

-- it is in the state that the run has come to, by what its engine holds
abbrev pub IsAt : {E : Type 0} → (E → EngineState) → ℕ → SessionEngine E → RunState → Type 0
IsAt held limit engine run = IsInRun limit (held engine.engine) engine.sessions run

-- It can serve lines that are built, in whatever order they come.
pub record CanServe {E : Type 0} (held : E → EngineState) (limit : ℕ) (engine : SessionEngine E) (run : RunState) (lines : List Line) : Type 0 where
  pub in_run : IsAt held limit engine run
  pub built : are_built lines ≡ true
