use Rattle.std.proofs.Common.{◌≡◌, [], ◌++◌, length}
use Rattle.std.specs.Vec.Iter.{into_iter_items, into_iter_len}
use Rattle.ordered_run.specs.RunSoFar.{RunsOn}
use Rattle.ordered_run.proofs.PieceRuns.{lines_in}
use Rattle.ordered_run.proofs.run.run_lines.Given as goal

abbrev pub invariant-loop-piece : goal.invariant-loop-piece
invariant-loop-piece g l = record {
  pieces : l.yielded ++ into_iter_items l.piece-iterator ≡ into_iter_items l.initial.piece-iterator;
  count : into_iter_len l.piece-iterator ≡ length (into_iter_items l.piece-iterator);
  on : RunsOn g.E.RunEngine.held g.E.RunEngine.made g.E.RunEngine.flushed l.fn.engine l.engine (lines_in l.yielded) (g.K.Sink.taken l.fn.out) (g.K.Sink.taken l.out);
  goes : g.E.RunEngine.ready l.engine.engine;
  sound : g.K.Sink.faults l.out ≡ g.K.Sink.faults l.fn.out;
  empty : l.transcript.text ≡ [];
}
