use Rattle.script_text.specs.Parsed.{calls_of}
use Rattle.kept_engine.specs.Keeping.{kept_logged}
use Rattle.kept_engine.specs.Opening.{opening_of}
use Rattle.ordered_run.specs.Serving.{run_engine}
use Rattle.esentutl.proofs.RunEndings.{begins_for, ends_for, ends_unserved}
use Rattle.esentutl.proofs.runs.run_script.Goals as goal

pub returns-in-Err-clause-ends : goal.returns-in-Err-clause-ends
returns-in-Err-clause-ends g c =
    ends_unserved g.V.Volume.tells_contents g.V.Volume.seen g.V.Volume.moment g.V.Volume.left_at g.V.Volume.faults g.V.Volume.identity (kept_logged c.args.kept).engine.limit (calls_of c.args.calls) c.args.kept c.in-Err.kept c.into_volume.result (g.K.Sink.taken c.args.out.now) (g.K.Sink.faults c.args.out.now)
    c.in-Err.ensures.back c.into_volume.ensures

pub run_over-requires-clause-begins : goal.run_over-requires-clause-begins
run_over-requires-clause-begins g c =
    begins_for g.V.Volume.tells_contents g.V.Volume.seen g.V.Volume.moment g.V.Volume.left_at g.V.Volume.faults g.V.Volume.identity c.in-Ok.engine c.args.kept (calls_of c.args.calls) c.in-Ok.ensures.engine (c.in-Ok.ensures.ready (opening_of c.args.kept) c.requires.holds (calls_of c.args.calls) c.requires.built)

pub returns-in-Ok-clause-ends : goal.returns-in-Ok-clause-ends
returns-in-Ok-clause-ends g c =
    ends_for g.V.Volume.tells_contents g.V.Volume.seen g.V.Volume.moment g.V.Volume.left_at g.V.Volume.faults g.V.Volume.identity (run_engine c.in-Ok.engine) c.args.kept (calls_of c.args.calls) c.run_over.result.1 (g.K.Sink.taken c.args.out.now) (g.K.Sink.taken c.run_over.new.out) (g.K.Sink.faults c.args.out.now) (g.K.Sink.faults c.run_over.new.out) c.run_over.result.0
    c.in-Ok.ensures.engine c.run_over.ensures.ends
