use Rattle.std.proofs.Common.{rules, ◌≡◌, ◌∷◌, [], ◌++◌, List, length, refl, sym, ap, subst, ◌∙◌, append_assoc, append-nil, arith}
use Rattle.std.specs.Vec.Iter.{into_iter_items}
use Rattle.session_local.specs.Run.{Line, run_from}
use Rattle.script_text.specs.Parsed.{calls_of}
use Rattle.ordered_run.specs.RunSoFar.{SoFar, RunsOn}
use Rattle.ordered_run.specs.Serving.{run_engine, span_limit, CanServe}
use Rattle.ordered_run.proofs.PieceRuns.{Piece, lines_around, lines_in, lines_in-append, lines_of_piece, nothing_left, run_stopped}
use Rattle.ordered_run.proofs.Standing.{none_so_far, runs_none, runs_then, so_far_at, stops_later}
use Rattle.ordered_run.proofs.run.run_lines.Goals as goal

pub loop-piece-init : goal.loop-piece-init
loop-piece-init g c = record {
  pieces = refl;
  count = search rules;
  on = runs_none g.E.RunEngine.held g.E.RunEngine.made g.E.RunEngine.flushed c.args.engine.now (g.K.Sink.taken c.args.out.now);
  goes = c.requires.goes;
  sound = refl;
  empty = c.new-transcript.ensures;
}

pub run_piece-requires-clause-so_far : goal.run_piece-requires-clause-so_far
run_piece-requires-clause-so_far g c =
    let at = c.loop-piece in
    let lines = calls_of c.args.calls in
    let rest = into_iter_items c.next.new.self in
    let piece = c.in-Some.piece in
    let taken = g.K.Sink.taken c.args.out.now in
    let limit = span_limit g.E.RunEngine.held c.args.engine.now in
    let whole = lines_around at.yielded (into_iter_items at.piece-iterator) rest c.into_pieces-piece-items.result.items piece lines (at.invariant.pieces ∙ c.into_iter-piece-iterator.ensures.into_iter_gives.0) (ap calls_of c.into_pieces-piece-items.ensures) c.in-Some.ensures.steps.0 in
    let (opening, ready) = c.requires.ready in (
      opening,
      limit,
      run_engine c.args.engine.now,
      lines_in at.yielded,
      lines_in rest ++ [],
      taken,
      subst (λ (left : List Line). SoFar g.E.RunEngine.held g.E.RunEngine.made g.E.RunEngine.flushed opening limit (run_engine c.args.engine.now) at.engine (lines_in at.yielded) left taken (g.K.Sink.taken at.out)) (append_assoc (lines_of_piece piece) (lines_in rest) [])
          (so_far_at g.E.RunEngine.held g.E.RunEngine.made g.E.RunEngine.flushed c.args.engine.now at.engine (lines_in at.yielded) (lines_of_piece piece ++ lines_in rest) lines taken (g.K.Sink.taken at.out) whole at.invariant.on
          opening limit (run_engine c.args.engine.now) [] [] taken
          (none_so_far g.E.RunEngine.held g.E.RunEngine.made g.E.RunEngine.flushed opening limit c.args.engine.now (lines ++ []) taken
          (subst (λ (l : List Line). CanServe g.E.RunEngine.held limit c.args.engine.now (run_from opening) l) (sym (append-nil lines)) ready))),
    )

pub loop-piece-preserved : goal.loop-piece-preserved
loop-piece-preserved g c =
    let at = c.loop-piece in
    let rest = into_iter_items c.next.new.self in
    let piece = c.in-Some.piece in
    let steps : into_iter_items at.piece-iterator ≡ piece ∷ rest = c.in-Some.ensures.steps.0 in
    let gone = c.in-Some.ensures.steps.1 in
    let short = ap length steps in
    record {
      pieces = append_assoc at.yielded (piece ∷ []) rest ∙ rw (← steps) at.invariant.pieces;
      count = let was = at.invariant.count in omega arith;
      on = subst (λ (lines : List Line). RunsOn g.E.RunEngine.held g.E.RunEngine.made g.E.RunEngine.flushed c.args.engine.now c.run_piece.new.engine lines (g.K.Sink.taken c.args.out.now) (g.K.Sink.taken c.run_piece.new.out))
          (sym (lines_in-append at.yielded piece))
          (runs_then g.E.RunEngine.held g.E.RunEngine.made g.E.RunEngine.flushed c.args.engine.now at.engine c.run_piece.new.engine (lines_in at.yielded) (lines_of_piece piece)
          (g.K.Sink.taken c.args.out.now) (g.K.Sink.taken at.out) (g.K.Sink.taken c.run_piece.new.out) at.invariant.on c.in-Ok.ensures.runs);
      goes = c.in-Ok.ensures.goes;
      sound = c.in-Ok.ensures.sink ∙ at.invariant.sound;
      empty = c.in-Ok.ensures.empty;
    }

pub returns-clause-done : goal.returns-clause-done
returns-clause-done g c = λ opening ready.
    let at = c.loop-piece in
    let limit = span_limit g.E.RunEngine.held c.args.engine.now in
    let lines = calls_of c.args.calls in
    let taken = g.K.Sink.taken c.args.out.now in
    let none = nothing_left (into_iter_items at.piece-iterator) (sym at.invariant.count ∙ c.in-None.ensures.steps.0) in
    let all : at.yielded ≡ c.into_pieces-piece-items.result.items = sym (append-nil at.yielded) ∙ ap (λ (left : List Piece). at.yielded ++ left) (sym none) ∙ at.invariant.pieces ∙ c.into_iter-piece-iterator.ensures.into_iter_gives.0 in
    let ran = subst (λ (l : List Line). RunsOn g.E.RunEngine.held g.E.RunEngine.made g.E.RunEngine.flushed c.args.engine.now at.engine l taken (g.K.Sink.taken at.out)) (ap lines_in all ∙ ap calls_of c.into_pieces-piece-items.ensures) at.invariant.on in
    ran opening limit (run_engine c.args.engine.now) [] [] taken
    (none_so_far g.E.RunEngine.held g.E.RunEngine.made g.E.RunEngine.flushed opening limit c.args.engine.now (lines ++ []) taken
    (subst (λ (l : List Line). CanServe g.E.RunEngine.held limit c.args.engine.now (run_from opening) l) (sym (append-nil lines)) ready))

pub returns-in-Err-clause-stops : goal.returns-in-Err-clause-stops
returns-in-Err-clause-stops g c = λ opening ready.
    let at = c.loop-piece in
    let limit = span_limit g.E.RunEngine.held c.args.engine.now in
    let lines = calls_of c.args.calls in
    let rest = into_iter_items c.next.new.self in
    let piece = c.in-Some.piece in
    let taken = g.K.Sink.taken c.args.out.now in
    let taken_after = g.K.Sink.taken c.run_piece.new.out in
    let whole = lines_around at.yielded (into_iter_items at.piece-iterator) rest c.into_pieces-piece-items.result.items piece lines (at.invariant.pieces ∙ c.into_iter-piece-iterator.ensures.into_iter_gives.0) (ap calls_of c.into_pieces-piece-items.ensures) c.in-Some.ensures.steps.0 in
    run_stopped g.E.RunEngine.held g.E.RunEngine.made g.E.RunEngine.flushed c.in-Err.fault opening limit c.args.engine.now c.run_piece.new.engine lines taken taken_after ready
    (stops_later g.E.RunEngine.held g.E.RunEngine.made g.E.RunEngine.flushed c.in-Err.fault c.args.engine.now at.engine c.run_piece.new.engine (lines_in at.yielded) (lines_of_piece piece) (lines_in rest) lines
    taken (g.K.Sink.taken at.out) taken_after whole at.invariant.on c.in-Err.ensures.runs)
