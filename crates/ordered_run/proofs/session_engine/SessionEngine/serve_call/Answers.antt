use Rattle.std.proofs.Common.{◌≡◌, true, false, length, sym, ap, subst, ◌∙◌}
use Rattle.common_lemmas.proofs.Booleans.{and_right}
use Rattle.session_local.specs.BuiltCalls.{is_built_call, makes_named}
use Rattle.session_local.specs.LocalCalls.{is_answered_locally, IsAnswer}
use Rattle.session_local.specs.Answer.{answered_by}
use Rattle.session_local.specs.SessionSide.{SessionSide}
use Rattle.script_transcript.specs.TranscriptLine.{NamesNoMore}
use Rattle.ordered_run.specs.declared.sessions.RunSession.{RunSession}
use Rattle.ordered_run.specs.Sessions.{session_at, with_local}
use Rattle.ordered_run.specs.declared.served.LineAnswer.{LineAnswer}
use Rattle.ordered_run.specs.SessionRun.{reply_bytes}
use Rattle.ordered_run.proofs.BuiltRequests.{label_below}
use Rattle.ordered_run.proofs.MadeLines.{has-answered, local-makes, makes-none}
use Rattle.ordered_run.proofs.SessionCalls.{local-goes_on, takes_some}
use Rattle.ordered_run.proofs.SessionRuns.{goes_on-none}
use Rattle.ordered_run.proofs.SessionServes.{named-none}
use Rattle.ordered_run.proofs.SessionWrites.{beside_of, brought-put, in_run-same, same-self}
use Rattle.ordered_run.proofs.WrittenSessions.{place_of, put-local}
use Rattle.ordered_run.proofs.session_engine.SessionEngine.serve_call.Goals as goal

pub local_mut-requires : goal.local_mut-requires
local_mut-requires g c = place_of c.args.self.now.sessions c.args.session.0 (label_below c.args.session.0 c.requires.labelled) c.requires.ready.2.places

pub local_step-requires-clause-well_formed : goal.local_step-requires-clause-well_formed
local_step-requires-clause-well_formed g c =
    (beside_of c.a_run_holds_its_sessions.ensures c.requires.ready.0 (g.E.RunEngine.held c.args.self.now.engine) c.args.self.now.sessions c.requires.ready.1 c.args.session.0 c.local_mut.result.now c.requires.ready.2 c.local_mut.ensures.value).formed

pub local_step-requires-clause-built : goal.local_step-requires-clause-built
local_step-requires-clause-built g c = and_right (makes_named c.args.request.now) (is_built_call c.args.request.now) c.requires.built

pub serve_shared-requires-clause-ready : goal.serve_shared-requires-clause-ready
serve_shared-requires-clause-ready g c =
    let (limit, run, is) = c.requires.ready in
    let old = c.args.self.now in
    let kept : c.local_step.new.local ≡ c.local_mut.result.now = rw c.in-Ok-None.field-0-is at c.in-Ok-None.ensures.answer in (
      limit,
      run,
      in_run-same limit (g.E.RunEngine.held old.engine) (g.E.RunEngine.held old.engine) old.sessions run c.args.session.0 c.local_step.new.local is (label_below c.args.session.0 c.requires.labelled)
          (same-self (session_at old.sessions c.args.session.0).local c.local_step.new.local (kept ∙ c.local_mut.ensures.value)) is.holds,
    )

pub serve_shared-requires-clause-goes : goal.serve_shared-requires-clause-goes
serve_shared-requires-clause-goes g c = c.requires.goes

pub serve_shared-requires-clause-built : goal.serve_shared-requires-clause-built
serve_shared-requires-clause-built g c = c.requires.built

pub serve_shared-requires-clause-labelled : goal.serve_shared-requires-clause-labelled
serve_shared-requires-clause-labelled g c = c.requires.labelled

pub serve_shared-requires-clause-shared : goal.serve_shared-requires-clause-shared
serve_shared-requires-clause-shared g c =
    let old = c.args.self.now in
    let kept : c.local_step.new.local ≡ c.local_mut.result.now = rw c.in-Ok-None.field-0-is at c.in-Ok-None.ensures.answer in
    let not_itself : false ≡ is_answered_locally c.local_mut.result.now.state c.args.request.now = rw c.in-Ok-None.field-0-is at c.in-Ok-None.ensures.by_itself in
    let put = put-local old.sessions c.args.session.0 c.local_step.new.local (place_of old.sessions c.args.session.0 (label_below c.args.session.0 c.requires.labelled) c.requires.ready.2.places) in
    ap (λ (s : RunSession). is_answered_locally s.local.state c.args.request.now) put.0
    ∙ ap (λ (s : SessionSide). is_answered_locally s.state c.args.request.now) kept ∙ sym not_itself

pub returns-in-Ok-Some-clause-line : goal.returns-in-Ok-Some-clause-line
returns-in-Ok-Some-clause-line g c = λ limit run is.
    let old = c.args.self.now in
    let label = c.args.session.0 in
    let request = c.args.request.now in
    let new = c.local_step.new.local in
    let side = (session_at old.sessions label).local in
    let after = with_local old.sessions label new in
    let itself : true ≡ is_answered_locally c.local_mut.result.now.state request = rw c.in-Ok-Some.field-0-is at c.in-Ok-Some.ensures.by_itself in
    let answers : IsAnswer c.local_mut.result.now.state request (answered_by c.in-Ok-Some.reply new.reply) new.state = rw c.in-Ok-Some.field-0-is at c.in-Ok-Some.ensures.answer in
    let put = put-local old.sessions label new (place_of old.sessions label (label_below c.args.session.0 c.requires.labelled) is.places) in
    let label_is = c.local_step.ensures.session ∙ ap (λ (s : SessionSide). s.session) c.local_mut.ensures.value ∙ is.labels label in
    let brought = brought-put old.sessions after label (record (session_at old.sessions label) { local = new }) put is.places label_is in
    let locally = ap (λ (s : SessionSide). is_answered_locally s.state request) (sym c.local_mut.ensures.value) ∙ sym itself in
    let said = subst (λ (s : SessionSide). IsAnswer s.state request (answered_by c.in-Ok-Some.reply new.reply) new.state) c.local_mut.ensures.value answers in
    let finds = c.no_answer_is_want_of_memory.ensures in
    let no_step = c.local_calls_take_no_step.ensures.step in
    let held = g.E.RunEngine.held old.engine in
    has-answered g.E.RunEngine.held g.E.RunEngine.made limit old.engine (record { engine = old.engine; sessions = after }) run c.args.session request c.tell.result
    (record { n = c.last.result; reply = c.in-Ok-Some.reply; flush = false }) c.tell.ensures.line
    (local-goes_on c.sessions_follow_a_line.ensures c.a_run_is_held_after_its_lines.ensures.served finds no_step c.local_calls_take_no_step.ensures.local
    limit held old.sessions after run c.args.session request new c.last.result c.in-Ok-Some.reply is c.requires.built locally said brought put.0 (c.last.ensures ∙ ap (λ (s : RunSession). s.last) put.0))
    (local-makes g.E.RunEngine.made finds no_step limit held old.sessions run c.args.session request new c.in-Ok-Some.reply old.engine is c.requires.built locally said
    (g.met.E.RunEngine.rests old.engine))

pub returns-in-Ok-Some-clause-goes : goal.returns-in-Ok-Some-clause-goes
returns-in-Ok-Some-clause-goes g c = c.requires.goes

pub returns-in-Ok-Some-clause-named : goal.returns-in-Ok-Some-clause-named
returns-in-Ok-Some-clause-named g c =
    let old = c.args.self.now in
    let named = rw c.in-Ok-Some.field-0-is at c.in-Ok-Some.ensures.named in
    let put = put-local old.sessions c.args.session.0 c.local_step.new.local (place_of old.sessions c.args.session.0 (label_below c.args.session.0 c.requires.labelled) c.requires.ready.2.places) in
    let here = subst (λ (s : RunSession). NamesNoMore c.in-Ok-Some.reply (length s.local.reply)) (sym put.0) named in
    subst (λ (s : LineAnswer). NamesNoMore s.reply (length (reply_bytes (with_local old.sessions c.args.session.0 c.local_step.new.local) c.args.session))) (sym c.tell.ensures.line) here

pub returns-in-Ok-None-clause-line : goal.returns-in-Ok-None-clause-line
returns-in-Ok-None-clause-line g c = λ limit run is.
    let old = c.args.self.now in
    let kept : c.local_step.new.local ≡ c.local_mut.result.now = rw c.in-Ok-None.field-0-is at c.in-Ok-None.ensures.answer in
    c.serve_shared.ensures.line limit run (in_run-same limit (g.E.RunEngine.held old.engine) (g.E.RunEngine.held old.engine) old.sessions run c.args.session.0 c.local_step.new.local is (label_below c.args.session.0 c.requires.labelled)
    (same-self (session_at old.sessions c.args.session.0).local c.local_step.new.local (kept ∙ c.local_mut.ensures.value)) is.holds)

pub returns-in-Ok-None-clause-goes : goal.returns-in-Ok-None-clause-goes
returns-in-Ok-None-clause-goes g c = c.serve_shared.ensures.goes

pub returns-in-Ok-None-clause-named : goal.returns-in-Ok-None-clause-named
returns-in-Ok-None-clause-named g c = c.serve_shared.ensures.named

pub returns-in-Err-clause-line : goal.returns-in-Err-clause-line
returns-in-Err-clause-line g c = λ limit run is.
    let old = c.args.self.now in
    let new = c.local_step.new.local in
    let told = c.without_memory in
    let held = g.E.RunEngine.held old.engine in
    record {
      goes_on = goes_on-none limit held (with_local old.sessions c.args.session.0 new) run c.args.session c.args.request.now told.result.n told.result.reply told.ensures.n told.ensures.reply
          (in_run-same limit held held old.sessions run c.args.session.0 new is (label_below c.args.session.0 c.requires.labelled)
          (same-self (session_at old.sessions c.args.session.0).local new (c.in-Err.ensures.unchanged ∙ c.local_mut.ensures.value)) is.holds)
          (takes_some c.args.request.now c.in-Err.ensures.memory);
      makes = makes-none g.E.RunEngine.made limit run (c.args.session.0, c.args.request.now) told.result.reply told.result.flush old.engine old.engine told.ensures.reply told.ensures.flush
          (g.met.E.RunEngine.rests old.engine);
    }

pub returns-in-Err-clause-goes : goal.returns-in-Err-clause-goes
returns-in-Err-clause-goes g c = c.requires.goes

pub returns-in-Err-clause-named : goal.returns-in-Err-clause-named
returns-in-Err-clause-named g c =
    named-none c.without_memory.result.reply (length (reply_bytes (with_local c.args.self.now.sessions c.args.session.0 c.local_step.new.local) c.args.session)) c.without_memory.ensures.reply
