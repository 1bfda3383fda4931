use Rattle.std.proofs.Common.{ℕ, List, false, length, refl, sym, ap, subst, ◌∙◌}
use Rattle.session_local.specs.LocalCalls.{is_answered_locally}
use Rattle.session_local.specs.SessionSide.{SessionSide}
use Rattle.session_local.specs.Run.{RunState}
use Rattle.script_transcript.specs.TranscriptLine.{NamesNoMore}
use Rattle.ordered_run.specs.declared.sessions.RunSession.{RunSession}
use Rattle.laws_engine.specs.EngineState.{EngineState}
use Rattle.engine_parts.specs.Deciding.{IsDecision, only_reply}
use Rattle.ordered_run.proofs.BuiltRequests.{label_below}
use Rattle.ordered_run.proofs.MadeLines.{decided-makes, has-answered}
use Rattle.ordered_run.proofs.SessionCalls.{WasMade, decided-goes_on, told_after}
use Rattle.ordered_run.proofs.SessionWrites.{after_read, answers_seen, beside_seen, was_read}
use Rattle.ordered_run.proofs.WrittenSessions.{place_of, place-with_local}
use Rattle.ordered_run.specs.declared.served.LineAnswer.{LineAnswer}
use Rattle.ordered_run.specs.ServedLines.{HasAnswered}
use Rattle.ordered_run.specs.SessionRun.{IsInRun, reply_bytes}
use Rattle.ordered_run.proofs.session_engine.SessionEngine.serve_reading.Given.{Over}
use Rattle.ordered_run.proofs.session_engine.SessionEngine.serve_reading.Goals as goal

pub local_mut-requires : goal.local_mut-requires
local_mut-requires g c = place_of c.args.self.now.sessions c.args.session.0 (label_below c.args.session.0 c.requires.labelled) c.requires.ready.2.places

pub read-reply-requires-clause-beside : goal.read-reply-requires-clause-beside
read-reply-requires-clause-beside g c =
    beside_seen c.a_run_holds_its_sessions.ensures c.requires.ready.0 (g.E.RunEngine.held c.args.self.now.engine) c.engine.result.now c.args.self.now.sessions c.requires.ready.1 c.args.session.0 c.local_mut.result.now
    c.engine.ensures c.requires.ready.2 c.local_mut.ensures.value

pub read-reply-requires-clause-shared : goal.read-reply-requires-clause-shared
read-reply-requires-clause-shared g c = ap (λ (s : SessionSide). is_answered_locally s.state c.args.request.now) c.local_mut.ensures.value ∙ c.requires.shared

pub read-reply-requires-clause-reading : goal.read-reply-requires-clause-reading
read-reply-requires-clause-reading g c = c.requires.reading

pub set_last-requires : goal.set_last-requires
set_last-requires g c =
    let place = place_of c.args.self.now.sessions c.args.session.0 (label_below c.args.session.0 c.requires.labelled) c.requires.ready.2.places in
    place-with_local c.args.self.now.sessions c.args.session.0 c.args.session.0 c.read-reply.new.local place place

-- the sessions once the call is read
after : (g : Over) → goal.After-tell g → List RunSession
after g c = after_read c.args.self.now.sessions c.args.session c.read-reply.new.local c.number_for-number.result

was_read_so : (g : Over) (c : goal.After-tell g) (limit : ℕ) (run : RunState) → IsInRun limit (g.E.RunEngine.held c.args.self.now.engine) c.args.self.now.sessions run
    → WasMade limit (g.E.RunEngine.held c.args.self.now.engine) (g.E.RunEngine.held c.args.self.now.engine) c.args.self.now.sessions (after g c) run c.args.session c.args.request.now c.read-reply.new.local c.number_for-number.result (only_reply c.read-reply.result)
unfolding after
was_read_so g c limit run is =
    let old = c.args.self.now in
    let engine = g.E.RunEngine.held old.engine in
    let label = c.args.session.0 in
    let request = c.args.request.now in
    let side = c.local_mut.result.now in
    let made = c.read-reply.new.local in
    let n = c.number_for-number.result in
    let decided = subst (λ (e : EngineState). IsDecision e side request made (only_reply c.read-reply.result)) c.engine.ensures c.read-reply.ensures.decided in
    let answers = answers_seen c.a_run_is_held_after_its_lines.ensures.decided limit engine c.engine.result.now old.sessions run label side request made (only_reply c.read-reply.result)
    c.engine.ensures is c.local_mut.ensures.value c.read-reply.ensures.answer in
    was_read limit engine old.sessions run c.args.session request side made n c.read-reply.result is (label_below label c.requires.labelled) c.local_mut.ensures.value answers decided
    c.number_for-number.ensures

pub returns-clause-line : goal.returns-clause-line
unfolding after
returns-clause-line g c = λ limit run is.
    let old = c.args.self.now in
    let engine = g.E.RunEngine.held old.engine in
    let request = c.args.request.now in
    let made = was_read_so g c limit run is in
    let finds = c.no_answer_is_want_of_memory.ensures in
    let n = c.number_for-number.result in
    let reply = c.read-reply.result in
    subst (λ (all : List RunSession). HasAnswered g.E.RunEngine.held g.E.RunEngine.made limit old.engine (record { engine = old.engine; sessions = all }) run c.args.session request c.tell.result) (sym c.set_last.ensures)
    (has-answered g.E.RunEngine.held g.E.RunEngine.made limit old.engine (record { engine = old.engine; sessions = after g c }) run c.args.session request c.tell.result (record { n = n; reply = reply; flush = false }) c.tell.ensures.line
    (decided-goes_on c.sessions_follow_a_line.ensures c.a_run_is_held_after_its_lines.ensures.served finds limit engine engine old.sessions (after g c) run c.args.session request c.read-reply.new.local n (only_reply reply) is c.requires.built made)
    (decided-makes g.E.RunEngine.made finds limit run c.args.session request c.read-reply.new.local (only_reply reply) false old.engine old.engine made.answers c.requires.built (g.met.E.RunEngine.rests old.engine) refl))

pub returns-clause-goes : goal.returns-clause-goes
returns-clause-goes g c = c.requires.goes

pub returns-clause-named : goal.returns-clause-named
unfolding after
returns-clause-named g c =
    let (limit, run, is) = c.requires.ready in
    let old = c.args.self.now in
    let engine = g.E.RunEngine.held old.engine in
    let told = told_after limit engine engine old.sessions (after g c) run c.args.session c.args.request.now c.read-reply.new.local c.number_for-number.result (only_reply c.read-reply.result) (was_read_so g c limit run is) in
    subst (λ (all : List RunSession). NamesNoMore c.tell.result.reply (length (reply_bytes all c.args.session))) (sym c.set_last.ensures)
    (subst (λ (s : LineAnswer). NamesNoMore s.reply (length (reply_bytes (after g c) c.args.session))) (sym c.tell.ensures.line) told.1)
