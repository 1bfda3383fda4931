-- What the calls of a session come to: those that the session answers by itself, and those that are decided on the shared state.
use Rattle.std.proofs.Common.{◌≡◌, ◌≢◌, ℕ, ◌+◌, Bool, true, false, true≢false, List, ◌∷◌, length, Option, Some, None, refl, sym, ap, subst, ◌∙◌, IsTrue}
use Rattle.std.specs.Prelude.{if◌then◌else◌, nat_le}
use Rattle.std.proofs.lemmas.Bool.{false_from_ne_true}
use Rattle.jet_base.specs.declared.ids.Session.{Session}
use Rattle.jet_base.specs.declared.replies.Jet.{Jet}
use Rattle.jet_base.specs.declared.replies.Jet.TheVariants as jet
use Rattle.index_derive.specs.declared.log.EntryKind.TheVariants as entry
use Rattle.index_derive.specs.declared.log.Step.{Step}
use Rattle.index_derive.specs.Steps.{entries_of_step}
use Rattle.column_set.specs.Refusals.{first_refusal}
use Rattle.session_local.specs.declared.decision.Decision.{Decision}
use Rattle.session_local.specs.declared.request.Request.{Request}
use Rattle.session_local.specs.declared.request.Request.TheVariants as call
use Rattle.session_local.specs.declared.reply.Reply.{Reply}
use Rattle.session_local.specs.declared.reply.Value.{Value}
use Rattle.session_local.specs.declared.reply.Value.TheVariants as value
use Rattle.session_local.specs.Answer.{Answered, ShownValue, Nothing, answered_by, shown_by}
use Rattle.session_local.specs.Local.{LocalState, new_session}
use Rattle.session_local.specs.LocalCalls.{is_answered_locally, takes_memory, IsAnswer}
use Rattle.session_local.specs.SessionCalls.{begin_session, end_session}
use Rattle.session_local.specs.SessionSide.{SessionSide}
use Rattle.session_local.specs.Deciding.{decided_in, reply_after}
use Rattle.session_local.specs.Finishing.{finished}
use Rattle.session_local.specs.Outcome.{CallInputs, Outcome, done, refused, one, number_refusals, unless_refused}
use Rattle.session_local.specs.Calls.{answer, is_local}
use Rattle.session_local.specs.Run.{RunState, SessionRun, Line, session_run, inputs_in, outcome_of, number_of_line, last_after, after_served, takes_no_memory}
use Rattle.script_transcript.specs.TranscriptLine.{names_at_most}
use Rattle.session_local.specs.BuiltCalls.{is_built_request}
use Rattle.ordered_run.specs.declared.sessions.RunSession.{RunSession}
use Rattle.ordered_run.specs.Sessions.{session_at, in_run}
use Rattle.laws_engine.specs.EngineState.{EngineState}
use Rattle.laws_engine.specs.EngineSteps.{engine_after_answer}
use Rattle.laws_engine.specs.Answers.{IsAnswer as IsDecidedAnswer}
use Rattle.engine_core.specs.LoggedState.{logged_step_may_lack_memory}
use Rattle.engine_core.specs.Runs.{HoldsRun, IsInRun as IsPartOf}
use Rattle.ordered_run.specs.SessionRun.{outcome_told, reply_bytes, LacksMemory, IsInRun, GoesOn}
use Rattle.ordered_run.proofs.SessionRuns.{SessionsFollow, IsBrought, goes_on, number-after_answer, number-local, last-local, number-by, last-by}

-- ---- what the laws of the engine say

abbrev pub HeldAfterServed : Type 0
HeldAfterServed =
    (limit : ℕ) (engine : EngineState) (run : RunState) (line : Line) → HoldsRun limit engine run → is_built_request line.1 ≡ true
    → HoldsRun limit (engine_after_answer engine (outcome_of limit run line).step) (after_served limit run line)

abbrev pub AnswersFindMemory : Type 0
AnswersFindMemory = (asked : CallInputs) (request : Request) → is_built_request request ≡ true → (answer asked request).answered.jet ≢ jet.OutOfMemory

abbrev pub LacksNone : Type 0
LacksNone = (asked : CallInputs) (request : Request) (step : Step) → takes_no_memory request ≡ true → (answer asked request).step ≡ Some step → logged_step_may_lack_memory step ≡ false

abbrev pub TakesNoStep : Type 0
TakesNoStep = (asked : CallInputs) (request : Request) → is_answered_locally asked.local request ≡ true → (answer asked request).step ≡ None

abbrev pub AnswersLocally : Type 0
AnswersLocally = (asked : CallInputs) (request : Request) → is_answered_locally asked.local request ≡ true → is_local request (answer asked request).answered.jet ≡ true

-- ---- a session among those of a script

pub part_of : (limit : ℕ) (engine : EngineState) (sessions : List RunSession) (run : RunState) (label : ℕ) → IsInRun limit engine sessions run
    → IsPartOf run (session_at sessions label).local (session_at sessions label).last
part_of limit engine sessions run label is = record {
  part = ap (λ (l : ℕ). session_run run l) (is.labels label) ∙ is.parts label;
}

-- a call that a session is asked is asked of the state that the run has of it
pub local_is : (limit : ℕ) (engine : EngineState) (sessions : List RunSession) (run : RunState) (label : ℕ) → IsInRun limit engine sessions run
    → (inputs_in limit run label).local ≡ (session_at sessions label).local.state
local_is limit engine sessions run label is = ap (λ (s : SessionRun). s.local) (is.parts label)

-- ---- calls that the session answers by itself

same_part : (local seen : LocalState) (last counted : ℕ) → local ≡ seen → last ≡ counted → (let made : SessionRun = record { local = local; last = last } in made) ≡ record { local = seen; last = counted }
same_part local seen last counted a b = cc

pub local-goes_on : SessionsFollow → HeldAfterServed → AnswersFindMemory → TakesNoStep → AnswersLocally
    → (limit : ℕ) (engine : EngineState) (before after : List RunSession) (run : RunState) (session : Session) (request : Request) (new : SessionSide) (n : ℕ) (reply : Reply)
    → IsInRun limit engine before run → is_built_request request ≡ true → is_answered_locally (session_at before session.0).local.state request ≡ true
    → IsAnswer (session_at before session.0).local.state request (answered_by reply new.reply) new.state
    → IsBrought before after session.0 → session_at after session.0 ≡ record (session_at before session.0) { local = new } → n ≡ (session_at before session.0).last
    → GoesOn limit engine after run session request n reply (outcome_told reply)
local-goes_on follow served finds no_step answers_locally limit engine before after run session request new n reply is built locally answers brought left n_is =
    let line : Line = (session.0, request) in
    let asked = inputs_in limit run session.0 in
    let outcome = outcome_of limit run line in
    let old = session_at before session.0 in
    let seen = local_is limit engine before run session.0 is in
    let said = answers asked seen in
    let itself : is_answered_locally asked.local request ≡ true = ap (λ (l : LocalState). is_answered_locally l request) seen ∙ locally in
    let here : is_local request outcome.answered.jet ≡ true = answers_locally asked request itself in
    goes_on follow limit engine engine before after run session request n reply is (record {
      answered = ap (λ (s : RunSession). answered_by reply s.local.reply) left ∙ sym said.0;
      memory = finds asked request built;
      brought = brought;
      own = ap in_run left ∙ same_part new.state outcome.local old.last (last_after run line outcome) (sym said.1) (last-local run line outcome old (is.parts session.0) here);
      number = n_is ∙ number-local run line outcome.answered.jet old (is.parts session.0) here;
      held = subst (λ (s : Option Step). HoldsRun limit (engine_after_answer engine s) (after_served limit run line)) (no_step asked request itself) (served limit engine run line is.holds built);
    })

-- ---- what is shown when a session begins, and when it ends

never_refused : (asked : CallInputs) (refused : Option Jet) (next : Unit {0} → Outcome) → (next tt).answered.shown ≡ Nothing → (unless_refused asked refused next).answered.shown ≡ Nothing
never_refused asked None next is = is
never_refused asked (Some reply) next is = refl

shown-begin_session : (asked : CallInputs) → (begin_session asked).answered.shown ≡ Nothing
shown-begin_session asked =
    never_refused asked (first_refusal ((asked.local.begun, jet.SessionInUse) ∷ (nat_le 64 (length asked.state.sessions), jet.OutOfSessions) ∷ number_refusals asked))
    (λ _. done new_session Nothing (one asked entry.Enter)) refl

either_way : (begun : Bool) (first other : Outcome) → first.answered.shown ≡ Nothing → other.answered.shown ≡ Nothing → (let o : Outcome = elim begun [ true ↦ first | false ↦ other ] in o).answered.shown ≡ Nothing
either_way true first other a b = a
either_way false first other a b = b

shown-begin : (asked : CallInputs) → (answer asked call.BeginSession).answered.shown ≡ Nothing
unfolding answer
shown-begin asked = either_way asked.local.begun (begin_session asked) (begin_session asked) (shown-begin_session asked) (shown-begin_session asked)

shown-end : (asked : CallInputs) → (answer asked call.EndSession).answered.shown ≡ Nothing
unfolding answer
shown-end asked = either_way asked.local.begun (end_session asked) (refused asked jet.InvalidSesid) refl refl

nothing_shown : (v : Value) (before after : List ℕ) → shown_by v before ≡ Nothing → shown_by v after ≡ shown_by v before
nothing_shown value.Nothing before after is = refl
nothing_shown (value.Number n) before after is = refl
nothing_shown (value.Count n) before after is = refl
nothing_shown (value.Bytes count whole) before after is = let never : ⊥ = cc in absurd never

nothing_named : (v : Value) (before : List ℕ) (most : ℕ) → shown_by v before ≡ Nothing → IsTrue (names_at_most v most)
nothing_named value.Nothing before most is = refl
nothing_named (value.Number n) before most is = refl
nothing_named (value.Count n) before most is = refl
nothing_named (value.Bytes count whole) before most is = let never : ⊥ = cc in absurd never

-- the answer is told, and no more bytes are named than there are
abbrev Tells : Reply → List ℕ → Answered → Type 0
Tells reply bytes answered = (answered_by reply bytes ≡ answered) × IsTrue (names_at_most reply.value (length bytes))

-- a reply that shows nothing tells the same of any buffer
tells_nothing : (reply : Reply) (before after : List ℕ) (answered : Answered) → answered.shown ≡ Nothing → Tells reply before answered → Tells reply after answered
tells_nothing reply before after answered shows told =
    let nothing : shown_by reply.value before ≡ Nothing = ap (λ (a : Answered). a.shown) told.0 ∙ shows in
    (ap (λ (s : ShownValue). record { jet = reply.jet; shown = s }) (nothing_shown reply.value before after nothing) ∙ told.0, nothing_named reply.value before (length after) nothing)

-- a session that begins or ends, whose buffer comes or goes, is shown nothing; any other call leaves the buffer as it is
tells : (asked : CallInputs) (request : Request) (reply : Reply) (bytes : List ℕ) (step : Option Step) (buffers : Option (List ℕ))
    → Tells reply bytes (answer asked request).answered → Tells reply (reply_after bytes request step buffers) (answer asked request).answered
tells asked call.BeginSession reply bytes step buffers told = tells_nothing reply bytes (reply_after bytes call.BeginSession step buffers) (answer asked call.BeginSession).answered (shown-begin asked) told
tells asked call.EndSession reply bytes step buffers told = tells_nothing reply bytes (reply_after bytes call.EndSession step buffers) (answer asked call.EndSession).answered (shown-end asked) told
tells asked _ reply bytes step buffers told = told

-- ---- calls that are decided on the shared state

-- What a call that was decided has come to: what it was answered, and what became of the engine and of the sessions.
pub record WasMade (limit : ℕ) (engine after_engine : EngineState) (before after : List RunSession) (run : RunState) (session : Session) (request : Request) (made : SessionSide) (n : ℕ) (decision : Decision) : Type 0 where
  pub answers : IsDecidedAnswer (inputs_in limit run session.0) request made decision
  pub named : IsTrue (names_at_most decision.reply.value (length made.reply))
  pub brought : IsBrought before after session.0
  pub local : (session_at after session.0).local.state ≡ finished made.state request (decided_in decision)
  pub buffer : reply_bytes after session ≡ reply_after made.reply request decision.step decision.buffers
  pub engine_is : after_engine ≡ engine_after_answer engine decision.step
  pub number : n ≡ (if is_local request decision.reply.jet then (session_at before session.0).last else engine.number)
  pub counts : (session_at after session.0).last ≡ (if is_local request decision.reply.jet then (session_at before session.0).last else after_engine.number)

pub told_after : (limit : ℕ) (engine after_engine : EngineState) (before after : List RunSession) (run : RunState) (session : Session) (request : Request) (made : SessionSide) (n : ℕ) (decision : Decision)
    → WasMade limit engine after_engine before after run session request made n decision
    → Tells decision.reply (reply_bytes after session) (outcome_of limit run (session.0, request)).answered
told_after limit engine after_engine before after run session request made n decision w =
    subst (λ (b : List ℕ). Tells decision.reply b (outcome_of limit run (session.0, request)).answered) (sym w.buffer)
    (tells (inputs_in limit run session.0) request decision.reply made.reply decision.step decision.buffers (w.answers.reply, w.named))

pub decided-goes_on : SessionsFollow → HeldAfterServed → AnswersFindMemory
    → (limit : ℕ) (engine after_engine : EngineState) (before after : List RunSession) (run : RunState) (session : Session) (request : Request) (made : SessionSide) (n : ℕ) (decision : Decision)
    → IsInRun limit engine before run → is_built_request request ≡ true → WasMade limit engine after_engine before after run session request made n decision
    → GoesOn limit after_engine after run session request n decision.reply (outcome_told decision.reply)
decided-goes_on follow served finds limit engine after_engine before after run session request made n decision is built w =
    let line : Line = (session.0, request) in
    let outcome = outcome_of limit run line in
    let old = session_at before session.0 in
    let left = session_at after session.0 in
    let told = told_after limit engine after_engine before after run session request made n decision w in
    let jet_is : decision.reply.jet ≡ outcome.answered.jet = ap (λ (a : Answered). a.jet) told.0 in
    let made_is : after_engine ≡ engine_after_answer engine outcome.step = w.engine_is ∙ ap (engine_after_answer engine) w.answers.step in
    let number : after_engine.number ≡ engine.number + length (entries_of_step outcome.step) = ap (λ (e : EngineState). e.number) made_is ∙ number-after_answer engine outcome.step in
    let grown : run.state.number + length (entries_of_step outcome.step) ≡ after_engine.number = ap (λ (m : ℕ). m + length (entries_of_step outcome.step)) is.holds.holds.number ∙ sym number in
    goes_on follow limit engine after_engine before after run session request n decision.reply is (record {
      answered = told.0;
      memory = finds (inputs_in limit run session.0) request built;
      brought = w.brought;
      own = same_part left.local.state outcome.local left.last (last_after run line outcome) (w.local ∙ w.answers.local)
          (w.counts ∙ ap (λ (j : Jet). if is_local request j then old.last else after_engine.number) jet_is ∙ last-by run line outcome old after_engine.number (is.parts session.0) grown);
      number = w.number ∙ number-by run line decision.reply.jet old engine.number (is.parts session.0) is.holds.holds.number ∙ ap (number_of_line run line) jet_is;
      held = subst (λ (e : EngineState). HoldsRun limit e (after_served limit run line)) (sym made_is) (served limit engine run line is.holds built);
    })

-- ---- calls without memory

-- the local calls that take memory are not among those that take none
pub takes_some : (request : Request) → takes_memory request ≡ true → takes_no_memory request ≡ false
takes_some (call.SetColumn cursor column sequence value) takes = refl
takes_some (call.PrepareUpdate cursor how) takes = refl
takes_some (call.TempOpen temp unique columns) takes = refl
takes_some (call.TempPut temp values) takes = refl
takes_some _ takes = absurd (true≢false (sym takes))

-- nor is a call whose step found none
pub takes_some_by_step : LacksNone → (asked : CallInputs) (request : Request) (step : Option Step) → step ≡ (answer asked request).step → LacksMemory step → takes_no_memory request ≡ false
takes_some_by_step none asked request step is lacks =
    false_from_ne_true (takes_no_memory request) (λ free. true≢false (sym lacks.2 ∙ none asked request lacks.0 free (sym is ∙ lacks.1)))
