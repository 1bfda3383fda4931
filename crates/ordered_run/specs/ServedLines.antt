-- What a line comes to: what the engine makes for it, and how its log is flushed.
use Rattle.std.specs.Prelude.{◌≡◌, ◌⊎◌, ℕ, Bool, true, false, List}
use Rattle.jet_base.specs.declared.ids.Session.{Session}
use Rattle.index_derive.specs.declared.log.Entry.{Entry}
use Rattle.session_local.specs.declared.request.Request.{Request}
use Rattle.session_local.specs.Run.{Line, LineOutcome, RunState, entries_of_line, flushes, is_acknowledged}
use Rattle.laws_engine.specs.EngineState.{EngineState}
use Rattle.ordered_run.specs.declared.flushed.Flushed.{Flushed}
use Rattle.ordered_run.specs.declared.served.LineAnswer.{LineAnswer}
use Rattle.ordered_run.specs.declared.served.Served.{Served}
use Rattle.ordered_run.specs.declared.session_engine.SessionEngine.{SessionEngine}
use Rattle.ordered_run.specs.Flushing.{nothing_flushed, outcome_of_flush, outcome_of_jet}
use Rattle.ordered_run.specs.SessionRun.{outcome_told, GoesOn}

-- The entries of a line with this outcome were made, and its log is to be flushed just where the line is to be acknowledged.
pub record MakesLine {E : Type 0} (made : List Entry → E → E → Type 0) (limit : ℕ) (run : RunState) (line : Line) (outcome : LineOutcome) (old new : E) (flush : Bool) : Type 0 where
  pub entries : made (entries_of_line limit run line outcome) old new
  pub flush_is : flush ≡ is_acknowledged limit run line outcome

-- A line was answered: the engine and the sessions have gone on with the run, and the line was made.
pub record HasAnswered {E : Type 0} (held : E → EngineState) (made : List Entry → E → E → Type 0) (limit : ℕ) (before : E) (after : SessionEngine E) (run : RunState) (session : Session) (request : Request) (answer : LineAnswer) : Type 0 where
  pub goes_on : GoesOn limit (held after.engine) after.sessions run session request answer.n answer.reply (outcome_told answer.reply)
  pub makes : MakesLine made limit run (session.0, request) (outcome_told answer.reply) before after.engine answer.flush

-- what becomes of a line that is told so
abbrev pub outcome_of_line : Served → LineOutcome
outcome_of_line line = outcome_of_jet line.reply.jet line.flushed.flush

-- The engine has made the entries of a line with this outcome. Then its log was flushed, which the outcome goes by; or nothing was
-- flushed, since the line flushes nothing or found no memory.
pub record LineMade {E : Type 0} (made : List Entry → E → E → Type 0) (flushed : E → E → Flushed → Type 0) (limit : ℕ) (run : RunState) (line : Line) (outcome : LineOutcome) (old new : E) (told : Flushed) : Type 0 where
  pub between : E
  pub makes : made (entries_of_line limit run line outcome) old between
  pub flush : ((is_acknowledged limit run line outcome ≡ false) × (new ≡ between) × (told ≡ nothing_flushed))
      ⊎ ((flushes limit run line ≡ true) × (outcome ≡ outcome_of_flush told.flush) × flushed between new told)
