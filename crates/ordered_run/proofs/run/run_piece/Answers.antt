use Rattle.std.proofs.Common.{◌+◌, ◌++◌, ◌<◌, ◌∷◌, [], List, drop, length, refl, subst, take, ◌∙◌, arith}
use Rattle.session_local.specs.Run.{Line}
use Rattle.script_text.specs.Parsed.{calls_of, call_of}
use Rattle.ordered_run.specs.RunSoFar.{RunsOn}
use Rattle.ordered_run.proofs.PieceRuns.{all_taken, line_within}
use Rattle.ordered_run.proofs.RunLaws.{take-next}
use Rattle.ordered_run.proofs.Standing.{runs_none, runs_then, so_far_at, stops_later}
use Rattle.ordered_run.proofs.run.run_piece.Goals as goal

pub loop-index-init : goal.loop-index-init
loop-index-init g c = record {
  on = runs_none g.E.RunEngine.held g.E.RunEngine.made g.E.RunEngine.flushed c.args.engine.now (g.K.Sink.taken c.args.out.now);
  goes = c.requires.goes;
  sound = refl;
  empty = c.requires.empty;
}

pub run_line-requires-clause-so_far : goal.run_line-requires-clause-so_far
run_line-requires-clause-so_far g c =
    let at = c.loop-index in
    let below : at.index < length c.args.lines.now = omega (arith, c.loop-index-test.true, c.len-index-end.ensures) in
    let (opening, limit, start, gone, rest, first, so_far) = c.requires.so_far in
    let calls = c.args.lines.now in
    let lines = calls_of calls in
    let next = call_of c.call-line.result.now in (
      opening,
      limit,
      start,
      gone ++ take at.index lines,
      drop (at.index + 1) lines ++ rest,
      first,
      so_far_at g.E.RunEngine.held g.E.RunEngine.made g.E.RunEngine.flushed c.args.engine.now at.engine (take at.index lines) (next ∷ drop (at.index + 1) lines) lines (g.K.Sink.taken c.args.out.now) (g.K.Sink.taken at.out)
          (line_within calls at.index c.call-line.result.now c.call-line.ensures below) at.invariant.on opening limit start gone rest first so_far,
    )

pub loop-index-preserved : goal.loop-index-preserved
loop-index-preserved g c =
    let at = c.loop-index in
    let below : at.index < length c.args.lines.now = omega (arith, c.loop-index-test.true, c.len-index-end.ensures) in
    let calls = c.args.lines.now in
    record {
      on = subst (λ (lines : List Line). RunsOn g.E.RunEngine.held g.E.RunEngine.made g.E.RunEngine.flushed c.args.engine.now c.run_line.new.engine lines (g.K.Sink.taken c.args.out.now) (g.K.Sink.taken c.run_line.new.out))
          (take-next calls at.index c.call-line.result.now c.call-line.ensures below)
          (runs_then g.E.RunEngine.held g.E.RunEngine.made g.E.RunEngine.flushed c.args.engine.now at.engine c.run_line.new.engine (take at.index (calls_of calls)) (call_of c.call-line.result.now ∷ [])
          (g.K.Sink.taken c.args.out.now) (g.K.Sink.taken at.out) (g.K.Sink.taken c.run_line.new.out) at.invariant.on c.in-Ok.ensures.runs);
      goes = c.in-Ok.ensures.goes;
      sound = c.in-Ok.ensures.sink ∙ at.invariant.sound;
      empty = c.in-Ok.ensures.empty;
    }

pub returns-clause-runs : goal.returns-clause-runs
returns-clause-runs g c =
    let at = c.loop-index in
    let calls = c.args.lines.now in
    subst (λ (lines : List Line). RunsOn g.E.RunEngine.held g.E.RunEngine.made g.E.RunEngine.flushed c.args.engine.now at.engine lines (g.K.Sink.taken c.args.out.now) (g.K.Sink.taken at.out))
    (all_taken calls at.index (omega (arith, c.loop-index-test.false, c.len-index-end.ensures))) at.invariant.on

pub returns-in-Err-clause-runs : goal.returns-in-Err-clause-runs
returns-in-Err-clause-runs g c =
    let at = c.loop-index in
    let below : at.index < length c.args.lines.now = omega (arith, c.loop-index-test.true, c.len-index-end.ensures) in
    let calls = c.args.lines.now in
    stops_later g.E.RunEngine.held g.E.RunEngine.made g.E.RunEngine.flushed c.in-Err.fault c.args.engine.now at.engine c.run_line.new.engine (take at.index (calls_of calls)) (call_of c.call-line.result.now ∷ []) (drop (at.index + 1) (calls_of calls)) (calls_of calls)
    (g.K.Sink.taken c.args.out.now) (g.K.Sink.taken at.out) (g.K.Sink.taken c.run_line.new.out) (line_within calls at.index c.call-line.result.now c.call-line.ensures below) at.invariant.on c.in-Err.ensures.runs
