use Rattle.std.proofs.Common.{ℕ, List, length, sym, ap, subst, ◌∙◌}
use Rattle.session_local.specs.Deciding.{CopiedFits}
use Rattle.session_local.specs.LocalCalls.{is_answered_locally}
use Rattle.session_local.specs.SessionSide.{SessionSide}
use Rattle.session_local.specs.Run.{RunState, inputs_in}
use Rattle.script_transcript.specs.TranscriptLine.{NamesNoMore}
use Rattle.ordered_run.specs.declared.sessions.RunSession.{RunSession}
use Rattle.ordered_run.specs.Sessions.{session_at, with_local}
use Rattle.laws_engine.specs.EngineState.{EngineState}
use Rattle.engine_parts.specs.Deciding.{IsDecision}
use Rattle.engine_core.specs.Runs.{HoldsRun}
use Rattle.ordered_run.proofs.BuiltRequests.{label_below}
use Rattle.ordered_run.proofs.MadeLines.{decided-makes, has-answered, makes-none, step_label}
use Rattle.ordered_run.proofs.SessionCalls.{WasMade, decided-goes_on, takes_some_by_step, told_after}
use Rattle.ordered_run.proofs.SessionRuns.{goes_on-none}
use Rattle.ordered_run.proofs.SessionServes.{named-none, from_err, from_ok}
use Rattle.ordered_run.proofs.SessionWrites.{IsSame, after_finish, answers_seen, beside_seen, in_run-same, is_finished, is_step, same-self, was_made}
use Rattle.ordered_run.proofs.WrittenSessions.{found_again, place_of, place-with_local}
use Rattle.ordered_run.specs.declared.served.LineAnswer.{LineAnswer}
use Rattle.ordered_run.specs.ServedLines.{HasAnswered}
use Rattle.ordered_run.specs.SessionRun.{IsInRun, reply_bytes}
use Rattle.ordered_run.proofs.session_engine.SessionEngine.serve_decided.Given.{Over}
use Rattle.ordered_run.proofs.session_engine.SessionEngine.serve_decided.Goals as goal

pub local_mut-requires : goal.local_mut-requires
local_mut-requires g c = place_of c.args.self.now.sessions c.args.session.0 (label_below c.args.session.0 c.requires.labelled) c.requires.ready.2.places

pub decide-requires-clause-beside : goal.decide-requires-clause-beside
decide-requires-clause-beside g c =
    beside_seen c.a_run_holds_its_sessions.ensures c.requires.ready.0 (g.E.RunEngine.held c.args.self.now.engine) c.engine.result.now c.args.self.now.sessions c.requires.ready.1 c.args.session.0 c.local_mut.result.now
    c.engine.ensures c.requires.ready.2 c.local_mut.ensures.value

pub decide-requires-clause-built : goal.decide-requires-clause-built
decide-requires-clause-built g c = c.requires.built

pub decide-requires-clause-shared : goal.decide-requires-clause-shared
decide-requires-clause-shared g c = ap (λ (s : SessionSide). is_answered_locally s.state c.args.request.now) c.local_mut.ensures.value ∙ c.requires.shared

pub decide-requires-clause-changing : goal.decide-requires-clause-changing
decide-requires-clause-changing g c = c.requires.changing

pub returns-in_default-clause-line : goal.returns-in_default-clause-line
returns-in_default-clause-line g c = λ limit run is.
    let old = c.args.self.now in
    let engine = g.E.RunEngine.held old.engine in
    let new = c.decide.new.local in
    let told = c.without_memory in
    record {
      goes_on = goes_on-none limit engine (with_local old.sessions c.args.session.0 new) run c.args.session c.args.request.now told.result.n told.result.reply told.ensures.n told.ensures.reply
          (in_run-same limit engine engine old.sessions run c.args.session.0 new is (label_below c.args.session.0 c.requires.labelled)
          (same-self (session_at old.sessions c.args.session.0).local new (c.in_default.ensures.kept ∙ c.local_mut.ensures.value)) is.holds)
          c.in_default.ensures.memory;
      makes = makes-none g.E.RunEngine.made limit run (c.args.session.0, c.args.request.now) told.result.reply told.result.flush old.engine old.engine told.ensures.reply told.ensures.flush
          (g.met.E.RunEngine.rests old.engine);
    }

pub returns-in_default-clause-goes : goal.returns-in_default-clause-goes
returns-in_default-clause-goes g c = c.requires.goes

pub returns-in_default-clause-named : goal.returns-in_default-clause-named
returns-in_default-clause-named g c =
    named-none c.without_memory.result.reply (length (reply_bytes (with_local c.args.self.now.sessions c.args.session.0 c.decide.new.local) c.args.session)) c.without_memory.ensures.reply

pub make_step-requires-clause-goes : goal.make_step-requires-clause-goes
make_step-requires-clause-goes g c = c.requires.goes

pub make_step-requires-clause-lawful : goal.make_step-requires-clause-lawful
make_step-requires-clause-lawful g c = λ made is_made.
    let (limit, run, is) = c.requires.ready in
    let answers = answers_seen c.a_run_is_held_after_its_lines.ensures.decided limit (g.E.RunEngine.held c.args.self.now.engine) c.engine.result.now c.args.self.now.sessions run c.args.session.0 c.local_mut.result.now c.args.request.now c.decide.new.local c.in-Ok.decision
    c.engine.ensures is c.local_mut.ensures.value c.in-Ok.ensures.answer in
    c.steps_of_a_run_may_be_taken.ensures.taken limit (g.E.RunEngine.held c.args.self.now.engine) run (c.args.session.0, c.args.request.now) made is.holds c.requires.built (sym answers.step ∙ is_made)

pub make_step-requires-clause-room : goal.make_step-requires-clause-room
make_step-requires-clause-room g c = λ made is_made.
    let (limit, run, is) = c.requires.ready in
    c.steps_of_a_run_may_be_taken.ensures.room limit (g.E.RunEngine.held c.args.self.now.engine) run made is.holds (make_step-requires-clause-lawful g c made is_made)

pub make_step-requires-clause-label : goal.make_step-requires-clause-label
make_step-requires-clause-label g c = λ made is_made.
    let (limit, run, is) = c.requires.ready in
    let answers = answers_seen c.a_run_is_held_after_its_lines.ensures.decided limit (g.E.RunEngine.held c.args.self.now.engine) c.engine.result.now c.args.self.now.sessions run c.args.session.0 c.local_mut.result.now c.args.request.now c.decide.new.local c.in-Ok.decision
    c.engine.ensures is c.local_mut.ensures.value c.in-Ok.ensures.answer in
    step_label (inputs_in limit run c.args.session.0) c.args.request.now c.in-Ok.decision.step made c.requires.built answers.step is_made c.requires.labelled

pub returns-then-is_err-clause-line : goal.returns-then-is_err-clause-line
returns-then-is_err-clause-line g c = λ limit run is.
    let old = c.args.self.now in
    let engine = g.E.RunEngine.held old.engine in
    let after_engine = g.E.RunEngine.held c.make_step.new.engine in
    let label = c.args.session.0 in
    let made = c.decide.new.local in
    let decision = c.in-Ok.decision in
    let decided = c.in-Ok.ensures.decided in
    let same = c.local_mut.ensures.value in
    let answers = answers_seen c.a_run_is_held_after_its_lines.ensures.decided limit (g.E.RunEngine.held c.args.self.now.engine) c.engine.result.now c.args.self.now.sessions run c.args.session.0 c.local_mut.result.now c.args.request.now c.decide.new.local c.in-Ok.decision
    c.engine.ensures is c.local_mut.ensures.value c.in-Ok.ensures.answer in
    let err = sym c.is_err.ensures.value ∙ c.if-is_err.true in
    let lacks = from_err c.make_step.result err c.make_step.ensures.memory in
    let kept = from_err c.make_step.result err c.make_step.ensures.kept in
    let holds = subst (λ (e : EngineState). HoldsRun limit e run) (sym kept.1) (c.a_run_is_held_after_its_lines.ensures.clean limit engine run kept.0 is.holds) in
    let as_before : IsSame (session_at old.sessions label).local made = record {
      session = decided.session ∙ ap (λ (s : SessionSide). s.session) same;
      state = decided.still (is_step decision.step lacks) ∙ ap (λ (s : SessionSide). s.state) same;
    } in
    let told = c.without_memory-then-is_err in
    record {
      goes_on = goes_on-none limit after_engine (with_local old.sessions label made) run c.args.session c.args.request.now told.result.n told.result.reply told.ensures.n told.ensures.reply
          (in_run-same limit engine after_engine old.sessions run label made is (label_below label c.requires.labelled) as_before holds)
          (takes_some_by_step c.calls_without_memory_are_logged_without.ensures (inputs_in limit run label) c.args.request.now decision.step answers.step lacks);
      makes = makes-none g.E.RunEngine.made limit run (label, c.args.request.now) told.result.reply told.result.flush old.engine c.make_step.new.engine told.ensures.reply told.ensures.flush
          (from_err c.make_step.result err c.make_step.ensures.none);
    }

pub returns-then-is_err-clause-goes : goal.returns-then-is_err-clause-goes
returns-then-is_err-clause-goes g c = c.make_step.ensures.goes

pub returns-then-is_err-clause-named : goal.returns-then-is_err-clause-named
returns-then-is_err-clause-named g c =
    named-none c.without_memory-then-is_err.result.reply (length (reply_bytes (with_local c.args.self.now.sessions c.args.session.0 c.decide.new.local) c.args.session)) c.without_memory-then-is_err.ensures.reply

pub local_mut-requires-2 : goal.local_mut-requires-2
local_mut-requires-2 g c =
    let place = place_of c.args.self.now.sessions c.args.session.0 (label_below c.args.session.0 c.requires.labelled) c.requires.ready.2.places in
    place-with_local c.args.self.now.sessions c.args.session.0 c.args.session.0 c.decide.new.local place place

pub finish-requires : goal.finish-requires
finish-requires g c =
    let old = c.args.self.now in
    let made = c.decide.new.local in
    let again = found_again old.sessions c.args.session.0 made c.local_mut-2.result.now (place_of old.sessions c.args.session.0 (label_below c.args.session.0 c.requires.labelled) c.requires.ready.2.places) c.local_mut-2.ensures.value in
    subst (λ (s : SessionSide). CopiedFits s.state c.args.request.now c.in-Ok.decision.copied) (sym again) c.in-Ok.ensures.decided.fits

pub set_last-requires : goal.set_last-requires
set_last-requires g c =
    let old = c.args.self.now in
    let label = c.args.session.0 in
    let place = place_of old.sessions label (label_below c.args.session.0 c.requires.labelled) c.requires.ready.2.places in
    let here = place-with_local old.sessions label label c.decide.new.local place place in
    place-with_local (with_local old.sessions label c.decide.new.local) label label c.finish.new.local here here

-- the sessions once the call is finished
after : (g : Over) → goal.After-tell g → List RunSession
after g c = after_finish c.args.self.now.sessions c.args.session c.decide.new.local c.finish.new.local c.number_for-last.result

was_made_so : (g : Over) (c : goal.After-tell g) (limit : ℕ) (run : RunState) → IsInRun limit (g.E.RunEngine.held c.args.self.now.engine) c.args.self.now.sessions run
    → WasMade limit (g.E.RunEngine.held c.args.self.now.engine) (g.E.RunEngine.held c.make_step.new.engine) c.args.self.now.sessions (after g c) run c.args.session c.args.request.now c.decide.new.local c.number_for-n.result c.in-Ok.decision
unfolding after
was_made_so g c limit run is =
    let old = c.args.self.now in
    let engine = g.E.RunEngine.held old.engine in
    let label = c.args.session.0 in
    let request = c.args.request.now in
    let side = c.local_mut.result.now in
    let made = c.decide.new.local in
    let left = c.finish.new.local in
    let decision = c.in-Ok.decision in
    let counted = c.number_for-last.result in
    let n = c.number_for-n.result in
    let after_engine = g.E.RunEngine.held c.make_step.new.engine in
    let within = label_below label c.requires.labelled in
    let place = place_of old.sessions label within is.places in
    let again = found_again old.sessions label made c.local_mut-2.result.now place c.local_mut-2.ensures.value in
    let f = is_finished engine after_engine old.sessions c.args.session request made c.local_mut-2.result.now left counted n decision again c.finish.ensures.state c.finish.ensures.session c.finish.ensures.reply
    (from_ok c.make_step.result (sym c.is_err.ensures.value ∙ c.if-is_err.false) c.make_step.ensures.done) c.number_for-n.ensures c.number_for-last.ensures in
    let decided = subst (λ (e : EngineState). IsDecision e side request made decision) c.engine.ensures c.in-Ok.ensures.decided in
    let answers = answers_seen c.a_run_is_held_after_its_lines.ensures.decided limit (g.E.RunEngine.held c.args.self.now.engine) c.engine.result.now c.args.self.now.sessions run c.args.session.0 c.local_mut.result.now c.args.request.now c.decide.new.local c.in-Ok.decision
    c.engine.ensures is c.local_mut.ensures.value c.in-Ok.ensures.answer in
    was_made limit engine after_engine old.sessions run c.args.session request side made left counted n decision is within c.local_mut.ensures.value answers decided f

pub returns-clause-line : goal.returns-clause-line
unfolding after
returns-clause-line g c = λ limit run is.
    let old = c.args.self.now in
    let held = g.E.RunEngine.held in
    let new = c.make_step.new.engine in
    let request = c.args.request.now in
    let decision = c.in-Ok.decision in
    let n = c.number_for-n.result in
    let made = was_made_so g c limit run is in
    let finds = c.no_answer_is_want_of_memory.ensures in
    subst (λ (all : List RunSession). HasAnswered g.E.RunEngine.held g.E.RunEngine.made limit old.engine (record { engine = new; sessions = all }) run c.args.session request c.tell.result) (sym c.set_last.ensures)
    (has-answered g.E.RunEngine.held g.E.RunEngine.made limit old.engine (record { engine = new; sessions = after g c }) run c.args.session request c.tell.result
    (record { n = n; reply = decision.reply; flush = decision.flush }) c.tell.ensures.line
    (decided-goes_on c.sessions_follow_a_line.ensures c.a_run_is_held_after_its_lines.ensures.served finds
    limit (held old.engine) (held new) old.sessions (after g c) run c.args.session request c.decide.new.local n decision is c.requires.built made)
    (decided-makes g.E.RunEngine.made finds limit run c.args.session request c.decide.new.local decision decision.flush old.engine new made.answers c.requires.built
    (from_ok c.make_step.result (sym c.is_err.ensures.value ∙ c.if-is_err.false) c.make_step.ensures.made) c.in-Ok.ensures.decided.flush))

pub returns-clause-goes : goal.returns-clause-goes
returns-clause-goes g c = c.make_step.ensures.goes

pub returns-clause-named : goal.returns-clause-named
unfolding after
returns-clause-named g c =
    let (limit, run, is) = c.requires.ready in
    let old = c.args.self.now in
    let held = g.E.RunEngine.held in
    let decision = c.in-Ok.decision in
    let told = told_after limit (held old.engine) (held c.make_step.new.engine) old.sessions (after g c) run c.args.session c.args.request.now c.decide.new.local c.number_for-n.result decision (was_made_so g c limit run is) in
    subst (λ (all : List RunSession). NamesNoMore c.tell.result.reply (length (reply_bytes all c.args.session))) (sym c.set_last.ensures)
    (subst (λ (s : LineAnswer). NamesNoMore s.reply (length (reply_bytes (after g c) c.args.session))) (sym c.tell.ensures.line) told.1)
