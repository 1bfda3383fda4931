use Rattle.std.proofs.Common.{◌≡◌, [], take}
use Rattle.script_text.specs.Parsed.{calls_of}
use Rattle.ordered_run.specs.RunSoFar.{RunsOn}
use Rattle.ordered_run.proofs.run.run_piece.Given as goal

abbrev pub invariant-loop-index : goal.invariant-loop-index
invariant-loop-index g l = record {
  on : RunsOn g.E.RunEngine.held g.E.RunEngine.made g.E.RunEngine.flushed l.fn.engine l.engine (take l.index (calls_of l.lines)) (g.K.Sink.taken l.fn.out) (g.K.Sink.taken l.out);
  goes : g.E.RunEngine.ready l.engine.engine;
  sound : g.K.Sink.faults l.out ≡ g.K.Sink.faults l.fn.out;
  empty : l.transcript.text ≡ [];
}
