use Rattle.std.proofs.Common.{◌≡◌, ℕ, length, refl, sym, ap, subst, ◌∙◌}
use Rattle.session_local.specs.Run.{RunState}
use Rattle.script_transcript.specs.TranscriptLine.{NamesNoMore}
use Rattle.ordered_run.specs.declared.flushed.After.TheVariants.{Goes}
use Rattle.ordered_run.specs.declared.flushed.Flushed.{Flushed}
use Rattle.ordered_run.specs.declared.served.Served.{Served}
use Rattle.ordered_run.specs.Flushing.{nothing_flushed, IsFlushOutcome}
use Rattle.ordered_run.specs.Serving.{reply_of, IsAt}
use Rattle.ordered_run.proofs.BuiltRequests.{label_is, request_is, rest_is}
use Rattle.ordered_run.proofs.MadeLines.{IsTold, named-flushed, nothing-told, told-flushed, told-quiet, told_as, told_of}
use Rattle.ordered_run.proofs.session_engine.SessionEngine.serve.Given.{Over}
use Rattle.ordered_run.proofs.session_engine.SessionEngine.serve.Goals as goal

pub serve_call-answer-requires-clause-goes : goal.serve_call-answer-requires-clause-goes
serve_call-answer-requires-clause-goes g c = c.requires.goes

pub serve_call-answer-requires-clause-ready : goal.serve_call-answer-requires-clause-ready
serve_call-answer-requires-clause-ready g c = let (limit, run, rest, ready) = c.requires.ready in (limit, run, ready.in_run)

pub serve_call-answer-requires-clause-built : goal.serve_call-answer-requires-clause-built
serve_call-answer-requires-clause-built g c = let (limit, run, rest, ready) = c.requires.ready in request_is (c.args.session.0, c.args.request.now) rest ready.built

pub serve_call-answer-requires-clause-labelled : goal.serve_call-answer-requires-clause-labelled
serve_call-answer-requires-clause-labelled g c = let (limit, run, rest, ready) = c.requires.ready in label_is (c.args.session.0, c.args.request.now) rest ready.built

pub flush-requires : goal.flush-requires
flush-requires g c = c.serve_call-answer.ensures.goes

-- ---- the log is flushed

was_flushed : (g : Over) (c : goal.After-told g) (limit : ℕ) (run : RunState) → IsAt g.E.RunEngine.held limit c.args.self.now run
    → IsTold g.E.RunEngine.made g.E.RunEngine.flushed limit (g.E.RunEngine.held c.flush.new.self) c.serve_call-answer.new.self.sessions run c.args.session c.args.request.now c.told.result c.args.self.now.engine c.flush.new.self
was_flushed g c limit run is =
    let answered = c.serve_call-answer.ensures.line limit run is in
    let between = c.serve_call-answer.new.self in
    told_as g.E.RunEngine.made g.E.RunEngine.flushed limit (g.E.RunEngine.held c.flush.new.self) (g.E.RunEngine.held between.engine) between.sessions run c.args.session c.args.request.now c.told.result (told_of c.serve_call-answer.result c.flush.result) c.args.self.now.engine c.flush.new.self
    c.told.ensures c.flush.ensures.engine
    (told-flushed g.E.RunEngine.made g.E.RunEngine.flushed limit (g.E.RunEngine.held between.engine) between.sessions run c.args.session c.args.request.now c.serve_call-answer.result c.flush.result c.args.self.now.engine between.engine c.flush.new.self
    answered.goes_on answered.makes c.if-answer.true c.flush.ensures.flushed)

pub returns-then-answer-clause-row : goal.returns-then-answer-clause-row
returns-then-answer-clause-row g c = λ limit run rest ready. (was_flushed g c limit run ready.in_run).row

pub returns-then-answer-clause-outcome : goal.returns-then-answer-clause-outcome
returns-then-answer-clause-outcome g c = λ limit run rest ready. (was_flushed g c limit run ready.in_run).may_be

pub returns-then-answer-clause-state : goal.returns-then-answer-clause-state
returns-then-answer-clause-state g c = λ limit run rest ready. record {
  in_run = (was_flushed g c limit run ready.in_run).in_run;
  built = rest_is (c.args.session.0, c.args.request.now) rest ready.built;
}

pub returns-then-answer-clause-made : goal.returns-then-answer-clause-made
returns-then-answer-clause-made g c = λ limit run rest ready. (was_flushed g c limit run ready.in_run).line_made

pub returns-then-answer-clause-goes : goal.returns-then-answer-clause-goes
returns-then-answer-clause-goes g c =
    subst (λ (line : Served). line.flushed.after ≡ Goes → g.E.RunEngine.ready c.flush.new.self) (sym c.told.ensures) c.flush.ensures.ready

pub returns-then-answer-clause-told : goal.returns-then-answer-clause-told
returns-then-answer-clause-told g c = subst (λ (line : Served). IsFlushOutcome line.flushed) (sym c.told.ensures) c.flush.ensures.told

pub returns-then-answer-clause-named : goal.returns-then-answer-clause-named
returns-then-answer-clause-named g c =
    let most = length (reply_of c.serve_call-answer.new.self c.args.session) in
    subst (λ (line : Served). NamesNoMore line.reply most) (sym c.told.ensures) (named-flushed c.serve_call-answer.result.reply c.flush.result.flush most c.serve_call-answer.ensures.named)

-- ---- nothing is flushed

was_quiet : (g : Over) (c : goal.After-told-else-answer g) (limit : ℕ) (run : RunState) → IsAt g.E.RunEngine.held limit c.args.self.now run
    → IsTold g.E.RunEngine.made g.E.RunEngine.flushed limit (g.E.RunEngine.held c.serve_call-answer.new.self.engine) c.serve_call-answer.new.self.sessions run c.args.session c.args.request.now c.told-else-answer.result c.args.self.now.engine c.serve_call-answer.new.self.engine
was_quiet g c limit run is =
    let answered = c.serve_call-answer.ensures.line limit run is in
    let new = c.serve_call-answer.new.self in
    let held = g.E.RunEngine.held new.engine in
    told_as g.E.RunEngine.made g.E.RunEngine.flushed limit held held new.sessions run c.args.session c.args.request.now c.told-else-answer.result (told_of c.serve_call-answer.result nothing_flushed) c.args.self.now.engine new.engine
    (c.told-else-answer.ensures ∙ ap (λ (f : Flushed). told_of c.serve_call-answer.result f) c.not_flushed.ensures) refl
    (told-quiet g.E.RunEngine.made g.E.RunEngine.flushed limit held new.sessions run c.args.session c.args.request.now c.serve_call-answer.result c.args.self.now.engine new.engine answered.goes_on answered.makes c.if-answer.false)

pub returns-else-answer-clause-row : goal.returns-else-answer-clause-row
returns-else-answer-clause-row g c = λ limit run rest ready. (was_quiet g c limit run ready.in_run).row

pub returns-else-answer-clause-outcome : goal.returns-else-answer-clause-outcome
returns-else-answer-clause-outcome g c = λ limit run rest ready. (was_quiet g c limit run ready.in_run).may_be

pub returns-else-answer-clause-state : goal.returns-else-answer-clause-state
returns-else-answer-clause-state g c = λ limit run rest ready. record {
  in_run = (was_quiet g c limit run ready.in_run).in_run;
  built = rest_is (c.args.session.0, c.args.request.now) rest ready.built;
}

pub returns-else-answer-clause-made : goal.returns-else-answer-clause-made
returns-else-answer-clause-made g c = λ limit run rest ready. (was_quiet g c limit run ready.in_run).line_made

pub returns-else-answer-clause-goes : goal.returns-else-answer-clause-goes
returns-else-answer-clause-goes g c = λ goes. c.serve_call-answer.ensures.goes

pub returns-else-answer-clause-told : goal.returns-else-answer-clause-told
returns-else-answer-clause-told g c = subst (λ (line : Served). IsFlushOutcome line.flushed) (sym c.told-else-answer.ensures) (nothing-told c.not_flushed.result c.not_flushed.ensures)

pub returns-else-answer-clause-named : goal.returns-else-answer-clause-named
returns-else-answer-clause-named g c =
    let most = length (reply_of c.serve_call-answer.new.self c.args.session) in
    subst (λ (line : Served). NamesNoMore line.reply most) (sym c.told-else-answer.ensures)
    (named-flushed c.serve_call-answer.result.reply c.not_flushed.result.flush most c.serve_call-answer.ensures.named)
