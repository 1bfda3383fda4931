use Rattle.std.proofs.Common.{◌≡◌, ◌<◌, ℕ, List, ◌∷◌, [], length, take, Result, refl, subst, sym, ap, ◌∙◌}
use Rattle.std.specs.Prelude.{MatchResult}
use Rattle.std.specs.Io.KnownBytes.{append_known}
use Rattle.session_local.specs.Answer.{answered_by}
use Rattle.session_local.specs.Run.{Line, RunState, run_after_all, run_from}
use Rattle.ordered_run.specs.declared.run.LineFault.{LineFault}
use Rattle.ordered_run.specs.RunSoFar.{RunsOn, StopsIn}
use Rattle.ordered_run.specs.SessionRun.{row_told}
use Rattle.ordered_run.specs.ServedLines.{outcome_of_line}
use Rattle.ordered_run.specs.Outcomes.{line_text}
use Rattle.ordered_run.specs.Serving.{reply_of, CanServe}
use Rattle.ordered_run.proofs.LineText.{is_plain-kept, no_room_is, no_text, piece-row, piece-line_text, room_is}
use Rattle.ordered_run.proofs.Standing.{ends_at_image, line_ends, stops_before, took_err, took_ok, LineTold}
use Rattle.ordered_run.proofs.run.run_line.Goals as goal

pub returns-in-Err-clause-runs : goal.returns-in-Err-clause-runs
returns-in-Err-clause-runs g c = stops_before g.E.RunEngine.held g.E.RunEngine.made g.E.RunEngine.flushed c.args.engine.now ((c.args.session.0, c.args.request.now) ∷ []) (g.K.Sink.taken c.args.out.now)

pub serve-served-requires-clause-ready : goal.serve-served-requires-clause-ready
serve-served-requires-clause-ready g c =
    let (opening, limit, start, gone, rest, first, so_far) = c.requires.so_far in
    (limit, run_after_all limit (run_from opening) so_far.pairs, rest, so_far.ready)

pub returns-then-found_no_room-clause-runs : goal.returns-then-found_no_room-clause-runs
returns-then-found_no_room-clause-runs g c =
    let served = c.serve-served.ensures in
    let line_told : LineTold g.E.RunEngine.held g.E.RunEngine.made g.E.RunEngine.flushed c.args.engine.now c.serve-served.new.self (c.args.session.0, c.args.request.now) (outcome_of_line c.serve-served.result) c.serve-served.result.flushed =
    record { plain = is_plain-kept c.serve-served.result.reply.jet c.serve-served.result.flushed.flush; may_be = served.outcome; ready = served.state; line_made = served.made } in
    let told = c.serve-served.result in
    let none = sym c.found_no_room.ensures ∙ c.if-found_no_room.true in
    let row = row_told told.n c.args.session c.args.request.now (answered_by told.reply (reply_of c.serve-served.new.self c.args.session)) in
    ends_at_image g.E.RunEngine.held g.E.RunEngine.made g.E.RunEngine.flushed c.args.engine.now c.serve-served.new.self (c.args.session.0, c.args.request.now) (outcome_of_line told) told.flushed line_told
    (g.K.Sink.taken c.args.out.now) (g.K.Sink.taken c.args.out.now) (c.serve-served.ensures.told.no_room (no_room_is told.flushed.flush none))
    (λ limit run rest serves. no_text limit run (c.args.session.0, c.args.request.now) (outcome_of_line told) told.flushed.flush row (g.K.Sink.taken c.args.out.now) (c.serve-served.ensures.row limit run rest serves) none)

pub returns-clause-runs : goal.returns-clause-runs
returns-clause-runs g c =
    let served = c.serve-served.ensures in
    let line_told : LineTold g.E.RunEngine.held g.E.RunEngine.made g.E.RunEngine.flushed c.args.engine.now c.serve-served.new.self (c.args.session.0, c.args.request.now) (outcome_of_line c.serve-served.result) c.serve-served.result.flushed =
    record { plain = is_plain-kept c.serve-served.result.reply.jet c.serve-served.result.flushed.flush; may_be = served.outcome; ready = served.state; line_made = served.made } in
    let told = c.serve-served.result in
    let line : Line = (c.args.session.0, c.args.request.now) in
    let outcome = outcome_of_line told in
    let room = sym c.found_no_room.ensures ∙ c.if-found_no_room.false in
    let shown = reply_of c.serve-served.new.self c.args.session in
    let row = row_told told.n c.args.session c.args.request.now (answered_by told.reply shown) in
    let piece = c.text.result.now in
    let is_row = piece-row told.n c.args.session c.args.request.now told.reply c.reply.result.now shown c.make_room.new.self.text c.line.new.self.text piece
    (c.make_room.ensures.text ∙ c.requires.empty) c.line.ensures.text c.reply.ensures.bytes c.text.ensures in
    let is_text : (limit : ℕ) (run : RunState) (rest : List Line) → CanServe g.E.RunEngine.held limit c.args.engine.now run (line ∷ rest) → piece ≡ line_text limit run line outcome =
    λ limit run rest serves. piece-line_text limit run line outcome told.flushed.flush row piece is_row (c.serve-served.ensures.row limit run rest serves) room in
    let taken = g.K.Sink.taken c.args.out.now in
    let taken_after = g.K.Sink.taken c.write_all-printed.new.sink in
    subst (λ (result : Result (Unit {0}) LineFault). MatchResult result (λ done. RunsOn g.E.RunEngine.held g.E.RunEngine.made g.E.RunEngine.flushed c.args.engine.now c.serve-served.new.self (line ∷ []) taken taken_after)
    (λ by. StopsIn g.E.RunEngine.held g.E.RunEngine.made g.E.RunEngine.flushed by c.args.engine.now c.serve-served.new.self (line ∷ []) taken taken_after)) (sym c.line_result_of.ensures)
    (line_ends g.E.RunEngine.held g.E.RunEngine.made g.E.RunEngine.flushed c.args.engine.now c.serve-served.new.self line outcome told.flushed line_told taken taken_after
    c.write_all-printed.result told.flushed.after refl c.serve-served.ensures.told (room_is told.flushed.flush room)
    (took_ok c.write_all-printed.result (λ took limit run rest serves. took ∙ ap (append_known taken) (is_text limit run rest serves)) c.write_all-printed.ensures.ok)
    (took_err c.write_all-printed.result
    (λ front limit run rest serves.
    let text = is_text limit run rest serves in
    (front.0, subst (λ (t : List ℕ). front.0 < length t) text front.1, front.2 ∙ ap (λ (t : List ℕ). append_known taken (take front.0 t)) text)) c.write_all-printed.ensures.err))
