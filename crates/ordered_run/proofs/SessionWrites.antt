-- What a session's own state that is written leaves of the run.
use Rattle.std.proofs.Common.{◌≡◌, ◌≢◌, ◌≤◌, ℕ, Bool, List, Option, Some, None, refl, sym, ap, subst, ◌∙◌}
use Rattle.std.specs.Prelude.{if◌then◌else◌}
use Rattle.jet_base.specs.declared.ids.Session.{Session}
use Rattle.index_derive.specs.declared.log.Step.{Step}
use Rattle.session_local.specs.declared.decision.Decision.{Decision}
use Rattle.session_local.specs.declared.request.Request.{Request}
use Rattle.session_local.specs.declared.request.Request.TheVariants as call
use Rattle.session_local.specs.declared.reply.Reply.{Reply}
use Rattle.session_local.specs.Calls.{is_local}
use Rattle.session_local.specs.Deciding.{decided_in, reply_after}
use Rattle.session_local.specs.Finishing.{finished}
use Rattle.session_local.specs.Local.{LocalState}
use Rattle.session_local.specs.Run.{RunState, inputs_in}
use Rattle.session_local.specs.SessionSide.{SessionSide}
use Rattle.ordered_run.specs.declared.sessions.RunSession.{RunSession}
use Rattle.ordered_run.specs.Sessions.{last_label, session_at, HasPlace, with_local, with_last, in_run}
use Rattle.laws_engine.specs.EngineState.{EngineState}
use Rattle.laws_engine.specs.EngineSteps.{engine_after_answer}
use Rattle.engine_parts.specs.Deciding.{Decides, HoldsSession, IsDecision, only_reply}
use Rattle.laws_engine.specs.Answers.{IsAnswer}
use Rattle.engine_core.specs.Runs.{HoldsRun, IsInRun as IsPartOf}
use Rattle.ordered_run.specs.SessionRun.{LacksMemory, IsInRun}
use Rattle.ordered_run.proofs.SessionRuns.{IsBrought, in_run-kept}
use Rattle.ordered_run.proofs.SessionCalls.{WasMade, part_of}
use Rattle.ordered_run.proofs.WrittenSessions.{IsPut, place_of, place-put, place-with_local, put-all, put-local, put-read}

-- ---- one session is written

pub brought-put : (before after : List RunSession) (label : ℕ) (left : RunSession) → IsPut before after label left → HasPlace before last_label → left.local.session ≡ label → IsBrought before after label
brought-put before after label left put places label_is = record {
  others = put.1;
  label_is = subst (λ (s : RunSession). s.local.session ≡ label) (sym put.0) label_is;
  places = place-put before after label last_label left put places;
}

-- the own state of a session is the same
pub record IsSame (old new : SessionSide) : Type 0 where
  pub session : new.session ≡ old.session
  pub state : new.state ≡ old.state

pub same-self : (old new : SessionSide) → new ≡ old → IsSame old new
same-self old new is = record {
  session = ap (λ (s : SessionSide). s.session) is;
  state = ap (λ (s : SessionSide). s.state) is;
}

-- nothing but the reply buffer differs, and the engine holds the run still
pub in_run-same : (limit : ℕ) (engine after_engine : EngineState) (sessions : List RunSession) (run : RunState) (label : ℕ) (new : SessionSide)
    → IsInRun limit engine sessions run → label ≤ last_label → IsSame (session_at sessions label).local new → HoldsRun limit after_engine run
    → IsInRun limit after_engine (with_local sessions label new) run
in_run-same limit engine after_engine sessions run label new is within same holds =
    let old = session_at sessions label in
    let put = put-local sessions label new (place_of sessions label within is.places) in
    let brought = brought-put sessions (with_local sessions label new) label (record old { local = new }) put is.places (same.session ∙ is.labels label) in
    in_run-kept limit engine after_engine sessions (with_local sessions label new) run label is brought
    (ap in_run put.0 ∙ ap (λ (l : LocalState). record { local = l; last = old.last }) same.state) holds

-- ---- a session that is asked

-- the law that a session of a run stands beside the engine
abbrev pub PartsAreBeside : Type 0
PartsAreBeside = (limit : ℕ) (engine : EngineState) (run : RunState) (side : SessionSide) (last : ℕ) → HoldsRun limit engine run → IsPartOf run side last → HoldsSession engine side

pub beside_of : PartsAreBeside → (limit : ℕ) (engine : EngineState) (sessions : List RunSession) (run : RunState) (label : ℕ) (side : SessionSide)
    → IsInRun limit engine sessions run → side ≡ (session_at sessions label).local → HoldsSession engine side
beside_of law limit engine sessions run label side is same =
    let old = session_at sessions label in
    subst (λ (s : SessionSide). HoldsSession engine s) (sym same) (law limit engine run old.local old.last is.holds (part_of limit engine sessions run label is))

-- the law that a decision is the answer of the run
abbrev pub DecisionsAnswer : Type 0
DecisionsAnswer =
    (limit : ℕ) (engine : EngineState) (run : RunState) (old : SessionSide) (last : ℕ) (request : Request) (new : SessionSide) (decision : Decision)
    → HoldsRun limit engine run → IsPartOf run old last → Decides engine old request new decision → IsAnswer (inputs_in limit run old.session) request new decision

pub answers_of : DecisionsAnswer → (limit : ℕ) (engine : EngineState) (sessions : List RunSession) (run : RunState) (label : ℕ) (side : SessionSide) (request : Request) (new : SessionSide) (decision : Decision)
    → IsInRun limit engine sessions run → side ≡ (session_at sessions label).local → Decides engine side request new decision → IsAnswer (inputs_in limit run label) request new decision
answers_of law limit engine sessions run label side request new decision is same decides =
    let old = session_at sessions label in
    subst (λ (l : ℕ). IsAnswer (inputs_in limit run l) request new decision) (is.labels label)
    (law limit engine run old.local old.last request new decision is.holds (part_of limit engine sessions run label is)
    (subst (λ (s : SessionSide). Decides engine s request new decision) same decides))

-- the same of a decision on an engine that is the one of the run
pub answers_seen : DecisionsAnswer → (limit : ℕ) (engine seen : EngineState) (sessions : List RunSession) (run : RunState) (label : ℕ) (side : SessionSide) (request : Request) (new : SessionSide) (decision : Decision)
    → seen ≡ engine → IsInRun limit engine sessions run → side ≡ (session_at sessions label).local → Decides seen side request new decision → IsAnswer (inputs_in limit run label) request new decision
answers_seen law limit engine seen sessions run label side request new decision seen_is is same decides =
    answers_of law limit engine sessions run label side request new decision is same (subst (λ (e : EngineState). Decides e side request new decision) seen_is decides)

pub beside_seen : PartsAreBeside → (limit : ℕ) (engine seen : EngineState) (sessions : List RunSession) (run : RunState) (label : ℕ) (side : SessionSide)
    → seen ≡ engine → IsInRun limit engine sessions run → side ≡ (session_at sessions label).local → HoldsSession seen side
beside_seen law limit engine seen sessions run label side seen_is is same = subst (λ (e : EngineState). HoldsSession e side) (sym seen_is) (beside_of law limit engine sessions run label side is same)

pub is_step : (step : Option Step) → LacksMemory step → step ≢ None
is_step None lacks = λ is. let never : ⊥ = cc in absurd never
is_step (Some step) lacks = λ is. cc

-- ---- a call that was decided

-- the numbers of a session whose own state is written
last-kept : (sessions : List RunSession) (label number : ℕ) (made : SessionSide) (local : Bool) → HasPlace sessions label
    → (if local then (session_at (with_local sessions label made) label).last else number) ≡ (if local then (session_at sessions label).last else number)
last-kept sessions label number made local place =
    ap (λ (m : ℕ). if local then m else number) (ap (λ (s : RunSession). s.last) (put-local sessions label made place).0)

-- What became of the sessions by a call that was decided: the decision wrote the session's own state, then it was finished, and
-- then its number was set.
pub record IsFinished (engine after_engine : EngineState) (before : List RunSession) (session : Session) (request : Request) (made left : SessionSide) (counted n : ℕ) (decision : Decision) : Type 0 where
  pub state : left.state ≡ finished made.state request (decided_in decision)
  pub session_is : left.session ≡ made.session
  pub buffer : left.reply ≡ reply_after made.reply request decision.step decision.buffers
  pub engine_is : after_engine ≡ engine_after_answer engine decision.step
  pub number : n ≡ (if is_local request decision.reply.jet then (session_at (with_local before session.0 made) session.0).last else engine.number)
  pub counts : counted ≡ (if is_local request decision.reply.jet then (session_at (with_local (with_local before session.0 made) session.0 left) session.0).last else after_engine.number)

-- the own state that was finished is the one that the decision wrote
pub is_finished : (engine after_engine : EngineState) (before : List RunSession) (session : Session) (request : Request) (made found left : SessionSide) (counted n : ℕ) (decision : Decision) → found ≡ made
    → left.state ≡ finished found.state request (decided_in decision) → left.session ≡ found.session → left.reply ≡ reply_after found.reply request decision.step decision.buffers
    → after_engine ≡ engine_after_answer engine decision.step
    → n ≡ (if is_local request decision.reply.jet then (session_at (with_local before session.0 made) session.0).last else engine.number)
    → counted ≡ (if is_local request decision.reply.jet then (session_at (with_local (with_local before session.0 made) session.0 left) session.0).last else after_engine.number)
    → IsFinished engine after_engine before session request made left counted n decision
is_finished engine after_engine before session request made found left counted n decision same state session_is buffer engine_is number counts = record {
  state = state ∙ ap (λ (s : SessionSide). finished s.state request (decided_in decision)) same;
  session_is = session_is ∙ ap (λ (s : SessionSide). s.session) same;
  buffer = buffer ∙ ap (λ (s : SessionSide). reply_after s.reply request decision.step decision.buffers) same;
  engine_is = engine_is;
  number = number;
  counts = counts;
}

abbrev pub after_finish : List RunSession → Session → SessionSide → SessionSide → ℕ → List RunSession
after_finish before session made left counted = with_last (with_local (with_local before session.0 made) session.0 left) session.0 counted

pub was_made : (limit : ℕ) (engine after_engine : EngineState) (before : List RunSession) (run : RunState) (session : Session) (request : Request) (side made left : SessionSide) (counted n : ℕ) (decision : Decision)
    → IsInRun limit engine before run → session.0 ≤ last_label → side ≡ (session_at before session.0).local
    → IsAnswer (inputs_in limit run session.0) request made decision → IsDecision engine side request made decision
    → IsFinished engine after_engine before session request made left counted n decision
    → WasMade limit engine after_engine before (after_finish before session made left counted) run session request made n decision
was_made limit engine after_engine before run session request side made left counted n decision is within same answers decided f =
    let label = session.0 in
    let place = place_of before label within is.places in
    let one = with_local before label made in
    let put = put-all before label counted made left place in
    let label_is = f.session_is ∙ decided.session ∙ ap (λ (s : SessionSide). s.session) same ∙ is.labels label in
    let itself = is_local request decision.reply.jet in
    record {
      answers = answers;
      named = decided.named;
      brought = brought-put before (after_finish before session made left counted) label (record { local = left; last = counted }) put is.places label_is;
      local = ap (λ (s : RunSession). s.local.state) put.0 ∙ f.state;
      buffer = ap (λ (s : RunSession). s.local.reply) put.0 ∙ f.buffer;
      engine_is = f.engine_is;
      number = f.number ∙ last-kept before label engine.number made itself place;
      counts = ap (λ (s : RunSession). s.last) put.0 ∙ f.counts
          ∙ last-kept one label after_engine.number left itself (place-with_local before label label made place place)
          ∙ last-kept before label after_engine.number made itself place;
    }

-- ---- a call that a reply alone decides

finished-reply : (local : LocalState) (request : Request) (reply : Reply) → finished local request (decided_in (only_reply reply)) ≡ local
finished-reply local call.BeginSession reply = refl
finished-reply local call.EndSession reply = refl
finished-reply local (call.CommitTransaction lazy) reply = refl
finished-reply local (call.Rollback all) reply = refl
finished-reply local (call.OpenTable cursor table) reply = refl
finished-reply local (call.CloseTable cursor) reply = refl
finished-reply local (call.PrepareUpdate cursor how) reply = refl
finished-reply local (call.Update cursor) reply = refl
finished-reply local _ reply = refl

buffer-reply : (bytes : List ℕ) (request : Request) → reply_after bytes request None None ≡ bytes
buffer-reply bytes call.BeginSession = refl
buffer-reply bytes call.EndSession = refl
buffer-reply bytes _ = refl

abbrev pub after_read : List RunSession → Session → SessionSide → ℕ → List RunSession
after_read before session made n = with_last (with_local before session.0 made) session.0 n

-- the session's own state is written once, and then its number
pub was_read : (limit : ℕ) (engine : EngineState) (before : List RunSession) (run : RunState) (session : Session) (request : Request) (side made : SessionSide) (n : ℕ) (reply : Reply)
    → IsInRun limit engine before run → session.0 ≤ last_label → side ≡ (session_at before session.0).local
    → IsAnswer (inputs_in limit run session.0) request made (only_reply reply) → IsDecision engine side request made (only_reply reply)
    → n ≡ (if is_local request reply.jet then (session_at (with_local before session.0 made) session.0).last else engine.number)
    → WasMade limit engine engine before (after_read before session made n) run session request made n (only_reply reply)
was_read limit engine before run session request side made n reply is within same answers decided number =
    let label = session.0 in
    let place = place_of before label within is.places in
    let put = put-read before label n made place in
    let label_is = decided.session ∙ ap (λ (s : SessionSide). s.session) same ∙ is.labels label in
    let numbered = number ∙ last-kept before label engine.number made (is_local request reply.jet) place in
    record {
      answers = answers;
      named = decided.named;
      brought = brought-put before (after_read before session made n) label (record { local = made; last = n }) put is.places label_is;
      local = ap (λ (s : RunSession). s.local.state) put.0 ∙ sym (finished-reply made.state request reply);
      buffer = ap (λ (s : RunSession). s.local.reply) put.0 ∙ sym (buffer-reply made.reply request);
      engine_is = refl;
      number = numbered;
      counts = ap (λ (s : RunSession). s.last) put.0 ∙ numbered;
    }
