-- The run of a script after a line, and the engine that holds it.
use Rattle.std.proofs.Common.{◌≡◌, ℕ, ◌⊎◌, inl, inr, Bool, true, false, cond, List, [], ◌∷◌, Option, Some, None, refl, sym, ap, subst, ◌∙◌}
use Rattle.std.specs.Prelude.{◌==◌, unwrap_or, if◌then◌else◌}
use Rattle.std.specs.Cmp.{nat_cmp_total, unsigned_tied}
use Rattle.std.specs.FinMap.Entries.{find-put}
use Rattle.std.specs.Ordering.{nat_cmp}
use Rattle.column_set.specs.RecordValues.{lookup_by_number}
use Rattle.index_derive.specs.declared.log.Entry.{Entry}
use Rattle.index_derive.specs.declared.log.Step.{Step}
use Rattle.index_derive.specs.Steps.{entries_of_step}
use Rattle.database_state.specs.State.{DatabaseState}
use Rattle.database_state.specs.Step.{state_after_all}
use Rattle.session_local.specs.Local.{LocalState, no_session}
use Rattle.session_local.specs.Outcome.{Outcome}
use Rattle.session_local.specs.Run.{Line, RunState, SessionRun, after_outcome, after_served, last_after, outcome_of, run_from, session_run}
use Rattle.session_local.specs.SessionSide.{SessionSide}
use Rattle.session_local.specs.WellFormed.{IsWellFormed}
use Rattle.laws_engine.specs.LawfulSteps.{AreLawful}
use Rattle.laws_engine.specs.InStep.{IsInStep}
use Rattle.laws_engine.proofs.AgreeingLemmas.OwnSessions.{not_begun}
use Rattle.version_cleanup.specs.LiveSessions.{LiveState, is_live}
use Rattle.database_state.specs.Lawful.{is_live as is_live_in}
use Rattle.laws_engine.specs.EngineState.{EngineState, HasRoomForEnds, cleaned}
use Rattle.laws_engine.specs.EngineSteps.{cleaned_for, engine_after, engine_after_all, engine_after_answer, step_cleans}
use Rattle.laws_engine.specs.HoldsState.{HoldsState}
use Rattle.laws_engine.proofs.EngineLemmas.Sessions.{live_alike}
use Rattle.engine_parts.specs.Deciding.{HoldsSession}
use Rattle.engine_core.specs.Runs.{EndsFindRoom, HoldsRun, IsInRun, locals_of}

-- ---- the sessions of a run after a line

-- what a session has become by an outcome
abbrev made_of : RunState → Line → Outcome → SessionRun
made_of run line outcome = record { local = outcome.local; last = last_after run line outcome }

abbrev not_seen : SessionRun
not_seen = record { local = no_session; last = 0 }

picked : (own : Bool) (made : SessionRun) (found : Option SessionRun) → unwrap_or (cond own (Some made) found) not_seen ≡ (if own then made else unwrap_or found not_seen)
picked true made found = refl
picked false made found = refl

session_run-after : (run : RunState) (line : Line) (outcome : Outcome) (session : ℕ) → session_run (after_outcome run line outcome) session ≡ (if session == line.0 then made_of run line outcome else session_run run session)
session_run-after run line outcome session =
    ap (λ (found : Option SessionRun). unwrap_or found not_seen) (find-put nat_cmp nat_cmp_total session line.0 (made_of run line outcome) run.sessions)
    ∙ ap (λ (own : Bool). unwrap_or (cond own (Some (made_of run line outcome)) (lookup_by_number session run.sessions)) not_seen) (unsigned_tied session line.0)
    ∙ picked (session == line.0) (made_of run line outcome) (lookup_by_number session run.sessions)

local_of : (own : Bool) (made seen : SessionRun) → (if own then made else seen).local ≡ (if own then made.local else seen.local)
local_of true made seen = refl
local_of false made seen = refl

locals_of-after : (run : RunState) (line : Line) (outcome : Outcome) (session : ℕ) → locals_of (after_outcome run line outcome) session ≡ (if session == line.0 then outcome.local else locals_of run session)
locals_of-after run line outcome session =
    ap (λ (s : SessionRun). s.local) (session_run-after run line outcome session) ∙ local_of (session == line.0) (made_of run line outcome) (session_run run session)

-- ---- the limit of the span

limit-after_all : (engine : EngineState) (entries : List Entry) → (engine_after_all engine entries).limit ≡ engine.limit
limit-after_all engine [] = refl
limit-after_all engine (made ∷ entries) = limit-after_all (engine_after engine made) entries

limit-cleaned_for : (cleans : Bool) (engine : EngineState) → (cleaned_for cleans engine).limit ≡ engine.limit
limit-cleaned_for true engine = refl
limit-cleaned_for false engine = refl

limit-after : (engine : EngineState) (step : Option Step) → (engine_after_answer engine step).limit ≡ engine.limit
limit-after engine None = refl
limit-after engine (Some step) = limit-after_all (cleaned_for (step_cleans step) engine) (entries_of_step (Some step)) ∙ limit-cleaned_for (step_cleans step) engine

-- ---- the room for all that is to end

-- the law that an engine without sessions has room where a step comes
abbrev pub FindsRoom : Type 0
FindsRoom = (engine : EngineState) (state : DatabaseState) (step : Step) → HoldsState engine state → AreLawful state (entries_of_step (Some step)) → engine.sessions ≡ [] → HasRoomForEnds engine

pub room_for : FindsRoom → (engine : EngineState) (state : DatabaseState) (step : Step) → HoldsState engine state → AreLawful state (entries_of_step (Some step)) → EndsFindRoom engine → HasRoomForEnds engine
room_for finds engine state step h lawful (inl room) = room
room_for finds engine state step h lawful (inr none) = finds engine state step h lawful none

pub room_after : FindsRoom → (engine : EngineState) (state : DatabaseState) (o : Option Step) → HoldsState engine state → AreLawful state (entries_of_step o)
    → (HasRoomForEnds engine → HasRoomForEnds (engine_after_answer engine o)) → EndsFindRoom engine → EndsFindRoom (engine_after_answer engine o)
room_after finds engine state None h lawful after room = room
room_after finds engine state (Some step) h lawful after room = inl (after (room_for finds engine state step h lawful room))

room_cleaned : (cleans : Bool) (engine : EngineState) → EndsFindRoom engine → EndsFindRoom (cleaned_for cleans engine)
room_cleaned true engine (inl room) = inl (record { begun = room.begun; room = room.room })
room_cleaned true engine (inr none) = inr none
room_cleaned false engine room = room

-- ---- where a run begins

pub opened-run : (engine : EngineState) (state : DatabaseState) → HoldsState engine state → engine.sessions ≡ [] → HoldsRun engine.limit engine (run_from state)
opened-run engine state held none = record {
  limit_is = refl;
  holds = held;
  room = inr none;
  in_step = λ session. not_begun state session (sym (live_alike session state.sessions) ∙ ap (λ (sessions : List LiveState). is_live session sessions) (held.sessions ∙ none));
}

-- ---- a clean

-- the law that a clean leaves the state
abbrev pub CleanLeaves : Type 0
CleanLeaves = (engine : EngineState) (state : DatabaseState) → HoldsState engine state → HoldsState (cleaned engine) state

clean_holds : CleanLeaves → (cleans : Bool) (engine : EngineState) (state : DatabaseState) → HoldsState engine state → HoldsState (cleaned_for cleans engine) state
clean_holds leaves true engine state h = leaves engine state h
clean_holds leaves false engine state h = h

pub cleaned-run : CleanLeaves → (limit : ℕ) (engine : EngineState) (run : RunState) (cleans : Bool) → HoldsRun limit engine run → HoldsRun limit (cleaned_for cleans engine) run
cleaned-run leaves limit engine run cleans held = record {
  limit_is = limit-cleaned_for cleans engine ∙ held.limit_is;
  holds = clean_holds leaves cleans engine run.state held.holds;
  room = room_cleaned cleans engine held.room;
  in_step = held.in_step;
}

-- ---- the engine after a line

-- what is known of the engine after an outcome of a line
pub record IsServed (engine : EngineState) (run : RunState) (line : Line) (outcome : Outcome) : Type 0 where
  pub holds : HoldsState (engine_after_answer engine outcome.step) (state_after_all run.state (entries_of_step outcome.step))
  pub room : EndsFindRoom (engine_after_answer engine outcome.step)
  pub in_step : (session : ℕ) → IsInStep (state_after_all run.state (entries_of_step outcome.step)) session (if session == line.0 then outcome.local else locals_of run session)

served-own : (engine : EngineState) (run : RunState) (line : Line) (outcome : Outcome) → IsServed engine run line outcome → HoldsRun engine.limit (engine_after_answer engine outcome.step) (after_outcome run line outcome)
served-own engine run line outcome is = record {
  limit_is = limit-after engine outcome.step;
  holds = is.holds;
  room = is.room;
  in_step = λ session. subst (IsInStep (state_after_all run.state (entries_of_step outcome.step)) session) (sym (locals_of-after run line outcome session)) (is.in_step session);
}

pub served-held : (limit : ℕ) (engine : EngineState) (run : RunState) (line : Line) → engine.limit ≡ limit → IsServed engine run line (outcome_of engine.limit run line)
    → HoldsRun limit (engine_after_answer engine (outcome_of limit run line).step) (after_served limit run line)
served-held limit engine run line same is =
    subst (λ l. HoldsRun l (engine_after_answer engine (outcome_of l run line).step) (after_served l run line)) same (served-own engine run line (outcome_of engine.limit run line) is)

-- ---- a session of the run

-- the laws of sessions that are in step
abbrev pub AreTold : EngineState → RunState → Type 0
AreTold engine run = (session : ℕ) → is_live session engine.sessions ≡ is_live_in run.state session

abbrev pub AreFormed : RunState → Type 0
AreFormed run = (session : ℕ) (local : LocalState) → IsInStep run.state session local → IsWellFormed local

pub beside-run : (limit : ℕ) (engine : EngineState) (run : RunState) (side : SessionSide) (last : ℕ) → AreTold engine run → AreFormed run → HoldsRun limit engine run → IsInRun run side last → HoldsSession engine side
beside-run limit engine run side last told formed held is =
    let in_step : IsInStep run.state side.session side.state = subst (IsInStep run.state side.session) (ap (λ (s : SessionRun). s.local) is.part) (held.in_step side.session) in record {
      held = record { state = run.state; holds = held.holds; in_step = in_step };
      begun = in_step.agrees.begun ∙ sym (told side.session);
      formed = formed side.session side.state in_step;
    }
