use Rattle.kept_engine.proofs.Checkpoints.{flushed_progress, progress_more, quiet_progress}
use Rattle.kept_engine.proofs.runs.a_run_comes_as_far_as_its_lengths_say.Goals as goal

pub returns-clause-flushed : goal.returns-clause-flushed
returns-clause-flushed g c = flushed_progress g.V.Volume.faults g.V.Volume.identity

pub returns-clause-quiet : goal.returns-clause-quiet
returns-clause-quiet g c = quiet_progress

pub returns-clause-more : goal.returns-clause-more
returns-clause-more g c = progress_more
