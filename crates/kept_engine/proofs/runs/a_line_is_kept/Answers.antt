use Rattle.kept_engine.proofs.Lines.{line_flushed, line_quiet}
use Rattle.kept_engine.proofs.runs.a_line_is_kept.Goals as goal

pub returns-clause-flushed : goal.returns-clause-flushed
returns-clause-flushed g c = line_flushed g.V.Volume.seen g.V.Volume.moment g.V.Volume.left_at c.what_is_kept_stands.ensures.all

pub returns-clause-quiet : goal.returns-clause-quiet
returns-clause-quiet g c = line_quiet g.V.Volume.seen g.V.Volume.moment g.V.Volume.left_at c.what_is_kept_stands.ensures.now
