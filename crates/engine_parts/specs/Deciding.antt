-- When a decision of the engine is the answer of the database state.
use Rattle.std.specs.Prelude.{◌≡◌, ◌≢◌, ℕ, ◌==◌, Bool, false, length, None, IsTrue}
use Rattle.database_state.specs.State.{DatabaseState}
use Rattle.index_derive.specs.Steps.{entries_of_step}
use Rattle.session_local.specs.declared.decision.Decision.{Decision}
use Rattle.session_local.specs.declared.reply.Reply.{Reply}
use Rattle.session_local.specs.declared.request.Request.{Request}
use Rattle.session_local.specs.declared.request.Request.TheVariants as call
use Rattle.session_local.specs.Deciding.{CopiedFits}
use Rattle.session_local.specs.Run.{flushes_step}
use Rattle.session_local.specs.SessionSide.{SessionSide}
use Rattle.session_local.specs.Showing.{names_within}
use Rattle.session_local.specs.WellFormed.{IsWellFormed}
use Rattle.laws_engine.specs.LawfulSteps.{AreLawful}
use Rattle.laws_engine.specs.InStep.{IsInStep}
use Rattle.version_cleanup.specs.LiveSessions.{is_live}
use Rattle.laws_engine.specs.Answers.{IsAnswer}
use Rattle.laws_engine.specs.EngineState.{EngineState}
use Rattle.laws_engine.specs.HoldsState.{HoldsState, HoldsInStep, inputs_of}

-- ---- what a call asks of its caller

-- The engine holds a state with which the session's own state is in step.
pub record HoldsSession (engine : EngineState) (side : SessionSide) : Type 0 where
  pub held : HoldsInStep engine side.session side.state
  pub begun : side.state.begun ≡ is_live side.session engine.sessions
  pub formed : IsWellFormed side.state

-- ---- which calls move a cursor

-- the calls that move a cursor, by its label
abbrev pub is_navigation : ℕ → Request → Bool
is_navigation label (call.Move cursor way) = cursor.0 == label
is_navigation label (call.Seek cursor by) = cursor.0 == label
is_navigation label (call.SetIndexRange cursor upper inclusive) = cursor.0 == label
is_navigation label (call.GotoBookmark cursor bookmark) = cursor.0 == label
is_navigation label (call.SetCurrentIndex cursor index) = cursor.0 == label
is_navigation label _ = false

-- ---- decisions

-- a reply alone, after which all is as it was
abbrev pub only_reply : Reply → Decision
only_reply reply = record { step = None; reply = reply; table = None; copied = None; temp = None; buffers = None; flush = false }

-- the same in every state that the engine holds, and with which the session is in step
abbrev pub Decides : EngineState → SessionSide → Request → SessionSide → Decision → Type 0
Decides engine old request new decision =
    (state : DatabaseState) → HoldsState engine state → IsInStep state old.session old.state → IsAnswer (inputs_of engine state old.session old.state) request new decision

-- the log may take the entries of the step in each of these states
abbrev pub IsLawfulStep : EngineState → SessionSide → Decision → Type 0
IsLawfulStep engine old decision =
    (state : DatabaseState) → HoldsState engine state → IsInStep state old.session old.state → AreLawful state (entries_of_step decision.step)

-- what can be said of a decision besides
pub record IsDecision (engine : EngineState) (old : SessionSide) (request : Request) (new : SessionSide) (decision : Decision) : Type 0 where
  pub session : new.session ≡ old.session
  pub still : decision.step ≢ None → new.state ≡ old.state
  pub named : IsTrue (names_within decision.reply.value (length new.reply))
  pub fits : CopiedFits new.state request decision.copied
  pub flush : decision.flush ≡ flushes_step request decision.step
  pub lawful : IsLawfulStep engine old decision
