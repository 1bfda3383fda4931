use Rattle.std.proofs.Common.{ap, ◌∙◌}
use Rattle.script_text.specs.Parsed.{calls_of}
use Rattle.ordered_run.specs.Serving.{run_engine}
use Rattle.kept_engine.specs.Keeping.{kept_logged, kept_volume}
use Rattle.kept_engine.specs.Opening.{opening_of}
use Rattle.esentutl.proofs.RunEndings.{RunLaws, ends_by_stop, ends_where_all_ran, same_where_all_ran, same_where_stopped}
use Rattle.esentutl.proofs.runs.run_over.Goals as goal

pub returns-in-Ok-clause-ends : goal.returns-in-Ok-clause-ends
returns-in-Ok-clause-ends g c =
    let laws : RunLaws g.V.Volume.tells_contents g.V.Volume.seen g.V.Volume.moment g.V.Volume.left_at g.V.Volume.faults g.V.Volume.identity = record {
      goes_on = c.a_run_of_lines_is_kept.ensures.goes_on;
      stops = c.a_run_of_lines_is_kept.ensures.stops;
      now = c.a_run_is_kept_line_by_line.ensures.now;
      ends = c.a_run_is_kept_line_by_line.ensures.ends;
      progress = c.a_run_of_lines_is_kept.ensures.progress;
      counts = c.a_run_of_lines_is_kept.ensures.counts;
      stop_counts = c.a_run_of_lines_is_kept.ensures.stop_counts;
    } in
    let kept = run_engine c.args.engine in
    let so_far = c.in-Ok.ensures.done (opening_of kept) c.requires.begins in
    let closed = c.close.ensures in
    ends_where_all_ran g.V.Volume.tells_contents g.V.Volume.seen g.V.Volume.moment g.V.Volume.left_at g.V.Volume.faults g.V.Volume.identity laws (kept_logged kept).engine.limit (calls_of c.args.calls) kept c.run_lines.new.engine c.into_engine.result c.close.result.1
    (g.K.Sink.taken c.args.out.now) (g.K.Sink.taken c.run_lines.new.out) (g.K.Sink.taken c.close.new.out) (g.K.Sink.faults c.args.out.now) (g.K.Sink.faults c.run_lines.new.out) (g.K.Sink.faults c.close.new.out) c.close.result.0 so_far.pairs closed.0
    c.into_engine.ensures c.requires.ready.within so_far.outcomes so_far.taken c.in-Ok.ensures.sink so_far.lines_made closed.1 closed.2 closed.3

pub returns-in-Ok-clause-identity : goal.returns-in-Ok-clause-identity
returns-in-Ok-clause-identity g c =
    let laws : RunLaws g.V.Volume.tells_contents g.V.Volume.seen g.V.Volume.moment g.V.Volume.left_at g.V.Volume.faults g.V.Volume.identity = record {
      goes_on = c.a_run_of_lines_is_kept.ensures.goes_on;
      stops = c.a_run_of_lines_is_kept.ensures.stops;
      now = c.a_run_is_kept_line_by_line.ensures.now;
      ends = c.a_run_is_kept_line_by_line.ensures.ends;
      progress = c.a_run_of_lines_is_kept.ensures.progress;
      counts = c.a_run_of_lines_is_kept.ensures.counts;
      stop_counts = c.a_run_of_lines_is_kept.ensures.stop_counts;
    } in
    let kept = run_engine c.args.engine in
    let so_far = c.in-Ok.ensures.done (opening_of kept) c.requires.begins in
    let closed = c.close.ensures in
    same_where_all_ran g.V.Volume.tells_contents g.V.Volume.seen g.V.Volume.moment g.V.Volume.left_at g.V.Volume.faults g.V.Volume.identity laws (kept_logged kept).engine.limit kept c.run_lines.new.engine c.into_engine.result c.close.result.1 so_far.pairs closed.0 c.into_engine.ensures so_far.lines_made closed.3

pub returns-in-Err-clause-ends : goal.returns-in-Err-clause-ends
returns-in-Err-clause-ends g c =
    let laws : RunLaws g.V.Volume.tells_contents g.V.Volume.seen g.V.Volume.moment g.V.Volume.left_at g.V.Volume.faults g.V.Volume.identity = record {
      goes_on = c.a_run_of_lines_is_kept.ensures.goes_on;
      stops = c.a_run_of_lines_is_kept.ensures.stops;
      now = c.a_run_is_kept_line_by_line.ensures.now;
      ends = c.a_run_is_kept_line_by_line.ensures.ends;
      progress = c.a_run_of_lines_is_kept.ensures.progress;
      counts = c.a_run_of_lines_is_kept.ensures.counts;
      stop_counts = c.a_run_of_lines_is_kept.ensures.stop_counts;
    } in
    let kept = run_engine c.args.engine in
    let stands = c.in-Err.ensures.stops (opening_of kept) c.requires.begins in
    ends_by_stop g.V.Volume.tells_contents g.V.Volume.seen g.V.Volume.moment g.V.Volume.left_at g.V.Volume.faults g.V.Volume.identity laws (kept_logged kept).engine.limit (calls_of c.args.calls) kept c.run_lines.new.engine c.into_volume.result
    (g.K.Sink.taken c.args.out.now) (g.K.Sink.taken c.run_lines.new.out) (g.K.Sink.taken c.tell_stop.new.out) (g.K.Sink.faults c.args.out.now) (g.K.Sink.faults c.run_lines.new.out) (g.K.Sink.faults c.tell_stop.new.out) c.tell_stop.result c.in-Err.fault stands.0
    c.requires.ready.within stands.1 c.in-Err.ensures.sink c.tell_stop.ensures.status c.tell_stop.ensures.line (c.into_volume.ensures ∙ ap (λ kept. kept_volume kept) c.into_engine-in-Err.ensures)

pub returns-in-Err-clause-identity : goal.returns-in-Err-clause-identity
returns-in-Err-clause-identity g c =
    let laws : RunLaws g.V.Volume.tells_contents g.V.Volume.seen g.V.Volume.moment g.V.Volume.left_at g.V.Volume.faults g.V.Volume.identity = record {
      goes_on = c.a_run_of_lines_is_kept.ensures.goes_on;
      stops = c.a_run_of_lines_is_kept.ensures.stops;
      now = c.a_run_is_kept_line_by_line.ensures.now;
      ends = c.a_run_is_kept_line_by_line.ensures.ends;
      progress = c.a_run_of_lines_is_kept.ensures.progress;
      counts = c.a_run_of_lines_is_kept.ensures.counts;
      stop_counts = c.a_run_of_lines_is_kept.ensures.stop_counts;
    } in
    let kept = run_engine c.args.engine in
    let stands = c.in-Err.ensures.stops (opening_of kept) c.requires.begins in
    same_where_stopped g.V.Volume.tells_contents g.V.Volume.seen g.V.Volume.moment g.V.Volume.left_at g.V.Volume.faults g.V.Volume.identity laws (kept_logged kept).engine.limit (calls_of c.args.calls) kept c.run_lines.new.engine c.into_volume.result
    (g.K.Sink.taken c.args.out.now) (g.K.Sink.taken c.run_lines.new.out) c.in-Err.fault stands.0 stands.1 (c.into_volume.ensures ∙ ap (λ kept. kept_volume kept) c.into_engine-in-Err.ensures)
