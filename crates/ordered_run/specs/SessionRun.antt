-- When the engine and the sessions of a script are in the state that a run has come to, and what a line leaves of them.
use Rattle.std.specs.Prelude.{◌≡◌, ℕ, true, List, [], ◌∷◌, Option, Some}
use Rattle.jet_base.specs.declared.replies.Jet.TheVariants as jet
use Rattle.jet_base.specs.declared.ids.Session.{Session}
use Rattle.index_derive.specs.declared.log.Step.{Step}
use Rattle.session_local.specs.declared.request.Request.{Request}
use Rattle.session_local.specs.declared.reply.Reply.{Reply}
use Rattle.session_local.specs.declared.reply.Value.TheVariants as value
use Rattle.session_local.specs.Answer.{Answered, Row, answered_by}
use Rattle.session_local.specs.Run.{RunState, LineOutcome, rows_of_line, run_after, may_come}
use Rattle.ordered_run.specs.declared.sessions.RunSession.{RunSession}
use Rattle.ordered_run.specs.declared.flushed.Flush.TheVariants.{Kept}
use Rattle.ordered_run.specs.Flushing.{outcome_of_jet}
use Rattle.ordered_run.specs.Sessions.{last_label, session_at, HasPlace, AreSessionsOf}
use Rattle.laws_engine.specs.EngineState.{EngineState}
use Rattle.engine_core.specs.LoggedState.{logged_step_may_lack_memory}
use Rattle.engine_core.specs.Runs.{HoldsRun}

-- ---- what a reply tells

-- what becomes of a line by its reply, where all is kept that it flushes
abbrev pub outcome_told : Reply → LineOutcome
outcome_told reply = outcome_of_jet reply.jet Kept

abbrev pub no_memory_reply : Reply
no_memory_reply = record { jet = jet.OutOfMemory; value = value.Nothing }

abbrev pub row_told : ℕ → Session → Request → Answered → Row
row_told number session request answered = record { n = number; session = session.0; request = request; answered = answered }

-- ---- the sessions

-- what stands in the reply buffer of a session
abbrev pub reply_bytes : List RunSession → Session → List ℕ
reply_bytes sessions session = (session_at sessions session.0).local.reply

-- The engine holds the run, with this limit of its span. Each session is as the run has it and stands under its label, and there
-- is a place for every label.
pub record IsInRun (limit : ℕ) (engine : EngineState) (sessions : List RunSession) (run : RunState) : Type 0 where
  pub holds : HoldsRun limit engine run
  pub parts : AreSessionsOf sessions run
  pub labels : (label : ℕ) → (session_at sessions label).local.session ≡ label
  pub places : HasPlace sessions last_label

-- A line had this outcome: its row has this number and this reply, and the engine has gone on with the run.
pub record GoesOn (limit : ℕ) (engine : EngineState) (sessions : List RunSession) (run : RunState) (session : Session) (request : Request) (n : ℕ) (reply : Reply) (outcome : LineOutcome) : Type 0 where
  pub row : rows_of_line limit run (session.0, request) outcome ≡ row_told n session request (answered_by reply (reply_bytes sessions session)) ∷ []
  pub may_be : may_come limit run (session.0, request) outcome ≡ true
  pub in_run : IsInRun limit engine sessions (run_after limit run (session.0, request) outcome)

-- ---- steps

-- there is a step, and it may find no memory
abbrev pub LacksMemory : Option Step → Type 0
LacksMemory step = (made : Step) × (step ≡ Some made) × (logged_step_may_lack_memory made ≡ true)
