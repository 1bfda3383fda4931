-- Engines that go alongside, before an answer and after it.
use Rattle.std.proofs.Common.{◌≡◌, ℕ, ◌-◌, true, false, List, [], ◌∷◌, sym, ap, subst, ◌∙◌}
use Rattle.std.specs.Prelude.{◌==◌, if◌then◌else◌}
use Rattle.std.specs.List.{AllByRecursion}
use Rattle.index_derive.specs.declared.log.Entry.{Entry}
use Rattle.index_derive.specs.Steps.{entries_of_step}
use Rattle.database_state.specs.State.{DatabaseState}
use Rattle.database_state.specs.Step.{state_after, state_after_all}
use Rattle.database_state.specs.VersionStore.{version_span}
use Rattle.image_findings.specs.Findings.{engine_in}
use Rattle.image_findings.specs.Images.{ImageContents}
use Rattle.laws_engine.proofs.HeldLemmas.HeldIndexes.{held_read_no_sums}
use Rattle.laws_engine.specs.EngineState.{EngineState}
use Rattle.laws_engine.specs.EngineSteps.{engine_after_answer}
use Rattle.laws_engine.specs.HoldsState.{HoldsState, inputs_of, with_local}
use Rattle.laws_engine.specs.InStep.{IsInStep, StaysInStep}
use Rattle.laws_engine.specs.LawfulSteps.{AreLawful, HasLawfulStep}
use Rattle.laws_versions.proofs.HistoryLemmas.Labels.{labels_rise}
use Rattle.laws_versions.proofs.HistoryLemmas.LawfulEntries.{keeps_some}
use Rattle.laws_versions.specs.History.{EachTwo, HasHistory, LabelsRise}
use Rattle.session_local.specs.declared.request.Request.{Request}
use Rattle.session_local.specs.BuiltCalls.{is_built_request}
use Rattle.session_local.specs.Calls.{answer}
use Rattle.session_local.specs.Local.{LocalState}
use Rattle.session_local.specs.Outcome.{CallInputs, Outcome}
use Rattle.image_writing.specs.EngineImages.{ShowsEngine}
use Rattle.image_writing.specs.ReadBack.{GoesAlongside, span_of}
use Rattle.image_writing.specs.LighterStates.{DiffersInUndone, is_out_of_room}
use Rattle.image_writing.proofs.UndoneAnswers.{differing_after, differing_agrees, differing_limits, differing_room, settled_differs}

-- the law that an engine tells the span
abbrev pub TellsSpan : Type 0
TellsSpan = (engine : EngineState) (state : DatabaseState) → HoldsState engine state → span_of engine ≡ version_span state

-- what is known of the answers of engines
pub record EngineLaws : Type 0 where
  pub lawful : (engine : EngineState) (state : DatabaseState) → HoldsState engine state → (session : ℕ) (local : LocalState) (request : Request) → IsInStep state session local → is_built_request request ≡ true
      → HasLawfulStep state (answer (inputs_of engine state session local) request)
  pub holds : (engine : EngineState) (state : DatabaseState) → HoldsState engine state → (session : ℕ) (local : LocalState) (request : Request) → IsInStep state session local → is_built_request request ≡ true
      → HoldsState (engine_after_answer engine (answer (inputs_of engine state session local) request).step) (state_after_all state (entries_of_step (answer (inputs_of engine state session local) request).step))
  pub stays : (engine : EngineState) (state : DatabaseState) → HoldsState engine state → (session : ℕ) (local : LocalState) (request : Request) → IsInStep state session local → is_built_request request ≡ true
      → StaysInStep (inputs_of engine state session local) (answer (inputs_of engine state session local) request)
  pub own : (engine : EngineState) (state : DatabaseState) (session : ℕ) (local : LocalState) (request : Request) → is_built_request request ≡ true
      → AllByRecursion (λ made. made.session.0 ≡ session) (entries_of_step (answer (inputs_of engine state session local) request).step)
  pub keeps : (asked : CallInputs) (outcome : Outcome) → HasHistory asked.state → HasLawfulStep asked.state outcome → AllByRecursion (λ made. made.session.0 ≡ asked.session) (entries_of_step outcome.step) → StaysInStep asked outcome
      → (locals : ℕ → LocalState) → ((session : ℕ) → IsInStep asked.state session (locals session)) → (session : ℕ)
      → IsInStep (state_after_all asked.state (entries_of_step outcome.step)) session (if session == asked.session then outcome.local else locals session)

history_of : (engine : EngineState) (state : DatabaseState) → HoldsState engine state → HasHistory state
history_of engine state h = record { base = h.base; dropped = h.dropped; kept = h.kept; is_history = h.reached.history }

pub begins : (engine : EngineState) (state : DatabaseState) (image : ImageContents) (locals : ℕ → LocalState) → HoldsState engine state → ((session : ℕ) → IsInStep state session (locals session)) → ShowsEngine engine state image → (limit : ℕ)
    → GoesAlongside locals engine (engine_in limit image)
begins engine state image locals h in_step shows limit = record {
  state = state;
  shown = _;
  holds = h;
  shows = shows.holds limit;
  differs = settled_differs state (history_of engine state h);
  in_step = in_step;
}

-- ---- answers

pub limits : TellsSpan → (locals : ℕ → LocalState) (engine other : EngineState) (h : GoesAlongside locals engine other) → other.limit ≡ engine.limit - (span_of engine - span_of other) → (session : ℕ) (request : Request)
    → answer (inputs_of engine h.state session (locals session)) request ≡ answer (inputs_of other h.shown session (locals session)) request
limits told locals engine other h same session request =
    differing_limits h.state h.shown h.differs (held_read_no_sums engine h.state h.holds) engine.limit session (locals session) (h.in_step session).agrees request
    ∙ ap (λ limit. answer (record { limit = limit; state = h.shown; session = session; local = locals session }) request) lower
  where
    lower : engine.limit - (version_span h.state - version_span h.shown) ≡ other.limit
    lower = (λ i. engine.limit - (sym (told engine h.state h.holds) i - sym (told other h.shown h.shows) i)) ∙ sym same

pub room : (locals : ℕ → LocalState) (engine other : EngineState) (h : GoesAlongside locals engine other) → other.limit ≡ engine.limit → (session : ℕ) (request : Request)
    → is_out_of_room (answer (inputs_of engine h.state session (locals session)) request) ≡ false
    → answer (inputs_of engine h.state session (locals session)) request ≡ answer (inputs_of other h.shown session (locals session)) request
room locals engine other h same session request e =
    differing_room h.state h.shown h.differs (held_read_no_sums engine h.state h.holds) engine.limit session (locals session) (h.in_step session).agrees request e
    ∙ ap (λ limit. answer (record { limit = limit; state = h.shown; session = session; local = locals session }) request) (sym same)

-- ---- after an answer

all_differ : (one other : DatabaseState) → DiffersInUndone one other → HasHistory other → EachTwo LabelsRise one.sessions → (entries : List Entry) → AreLawful one entries → AreLawful other entries
    → DiffersInUndone (state_after_all one entries) (state_after_all other entries)
all_differ one other d has rise [] lawful too = d
all_differ one other d has rise (made ∷ entries) lawful too =
    all_differ (state_after one made) (state_after other made) (differing_after one other d has rise made lawful.0) (keeps_some other made has too.0) (labels_rise one made rise lawful.0) entries lawful.1 too.1

shown_in_step : (locals : ℕ → LocalState) (engine other : EngineState) (h : GoesAlongside locals engine other) (session : ℕ) → IsInStep h.shown session (locals session)
shown_in_step locals engine other h session =
    let step = h.in_step session in
    record { agrees = differing_agrees h.state h.shown h.differs session (locals session) step.agrees; labels = step.labels; updates = step.updates }

pub after : EngineLaws → (locals : ℕ → LocalState) (engine other : EngineState) (h : GoesAlongside locals engine other) (session : ℕ) (request : Request) → is_built_request request ≡ true
    → answer (inputs_of engine h.state session (locals session)) request ≡ answer (inputs_of other h.shown session (locals session)) request
    → GoesAlongside (with_local session (answer (inputs_of engine h.state session (locals session)) request).local locals) (engine_after_answer engine (answer (inputs_of engine h.state session (locals session)) request).step)
    (engine_after_answer other (answer (inputs_of engine h.state session (locals session)) request).step)
after laws locals engine other h session request built same = record {
  state = state_after_all h.state (entries_of_step outcome.step);
  shown = state_after_all h.shown (entries_of_step outcome.step);
  holds = laws.holds engine h.state h.holds session (locals session) request (h.in_step session) built;
  shows =
      subst (λ (o : Outcome). HoldsState (engine_after_answer other o.step) (state_after_all h.shown (entries_of_step o.step))) (sym same)
      (laws.holds other h.shown h.shows session (locals session) request (shown_in_step locals engine other h session) built);
  differs =
      all_differ h.state h.shown h.differs (history_of other h.shown h.shows) h.holds.labels (entries_of_step outcome.step)
      lawful (subst (λ (o : Outcome). AreLawful h.shown (entries_of_step o.step)) (sym same) (laws.lawful other h.shown h.shows session (locals session) request (shown_in_step locals engine other h session) built));
  in_step =
      laws.keeps (inputs_of engine h.state session (locals session)) outcome (history_of engine h.state h.holds) lawful (laws.own engine h.state session (locals session) request built)
      (laws.stays engine h.state h.holds session (locals session) request (h.in_step session) built) locals h.in_step;
}
  where
    outcome : Outcome
    outcome = answer (inputs_of engine h.state session (locals session)) request

    lawful : HasLawfulStep h.state outcome
    lawful = laws.lawful engine h.state h.holds session (locals session) request (h.in_step session) built
