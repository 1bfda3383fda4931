-- What decides a call: a refusal leaves all as it was, and a step is decided by its outcome.
use Rattle.std.proofs.Common.{◌≡◌, ℕ, Bool, List, Option, Some, refl, sym, subst}
use Rattle.jet_base.specs.declared.replies.Jet.{Jet}
use Rattle.index_derive.specs.declared.log.Step.{Step}
use Rattle.session_local.specs.declared.decision.Decision.{Decision}
use Rattle.session_local.specs.declared.request.Request.{Request}
use Rattle.session_local.specs.SessionSide.{SessionSide}
use Rattle.session_local.specs.Outcome.{CallInputs}
use Rattle.session_local.specs.Calls.{answer}
use Rattle.session_local.specs.Run.{flushes_step}
use Rattle.index_derive.specs.Steps.{entries_of_step}
use Rattle.database_state.specs.State.{DatabaseState}
use Rattle.laws_engine.specs.LawfulSteps.{AreLawful, HasLawfulStep}
use Rattle.laws_engine.specs.InStep.{IsInStep}
use Rattle.laws_engine.specs.EngineState.{EngineState}
use Rattle.laws_engine.specs.HoldsState.{HoldsState, inputs_of}
use Rattle.laws_engine.proofs.EngineLemmas.Decisions.{copied_none, refused_with, stepped_with}
use Rattle.engine_parts.specs.Deciding.{Decides, IsDecision, IsLawfulStep}

-- ---- what they decide

pub decision-refused : (engine : EngineState) (side : SessionSide) (request : Request) (reply : Jet) → IsDecision engine side request side (refused_with reply)
decision-refused engine side request reply = record {
  session = refl;
  still = λ _. refl;
  named = refl;
  fits = copied_none side.state request;
  flush = refl;
  lawful = λ state h in_step. tt;
}

-- ---- lawful steps

-- a call as a session asks it
abbrev pub inputs_by : EngineState → DatabaseState → SessionSide → CallInputs
inputs_by engine state side = inputs_of engine state side.session side.state

-- the step of the answer is lawful in every state that the engine holds
abbrev pub AnswersLawfully : EngineState → SessionSide → Request → Type 0
AnswersLawfully engine side request =
    (state : DatabaseState) → HoldsState engine state → IsInStep state side.session side.state → HasLawfulStep state (answer (inputs_by engine state side) request)

pub lawful-step : (engine : EngineState) (old new : SessionSide) (request : Request) (decision : Decision) → Decides engine old request new decision → AnswersLawfully engine old request → IsLawfulStep engine old decision
lawful-step engine old new request decision decides lawful = λ state h in_step.
    subst (λ (step : Option Step). AreLawful state (entries_of_step step)) (sym (decides state h in_step).step) (lawful state h in_step)

pub decision-stepped : (engine : EngineState) (side : SessionSide) (request : Request) (step : Step) (buffers : Option (List ℕ)) (flush : Bool)
    → Decides engine side request side (stepped_with step buffers flush) → AnswersLawfully engine side request → flush ≡ flushes_step request (Some step)
    → IsDecision engine side request side (stepped_with step buffers flush)
decision-stepped engine side request step buffers flush decides lawful flushes = record {
  session = refl;
  still = λ _. refl;
  named = refl;
  fits = copied_none side.state request;
  flush = flushes;
  lawful = lawful-step engine side side request (stepped_with step buffers flush) decides lawful;
}
