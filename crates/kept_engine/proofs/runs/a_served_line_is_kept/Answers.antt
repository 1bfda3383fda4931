use Rattle.kept_engine.proofs.ServedLines.{line_counts, line_kept, line_progress, line_rises}
use Rattle.kept_engine.proofs.runs.a_served_line_is_kept.Goals as goal

pub returns-clause-kept : goal.returns-clause-kept
returns-clause-kept g c = let v = g.V.Volume in
    line_kept v.seen v.moment v.left_at v.tells_contents v.faults v.identity c.what_is_kept_stands.ensures.all c.what_is_kept_stands.ensures.now

pub returns-clause-progress : goal.returns-clause-progress
returns-clause-progress g c = let v = g.V.Volume in line_progress v.seen v.moment v.left_at v.tells_contents v.faults v.identity

pub returns-clause-rises : goal.returns-clause-rises
returns-clause-rises g c = let v = g.V.Volume in line_rises v.seen v.moment v.left_at v.tells_contents v.faults v.identity

pub returns-clause-counts : goal.returns-clause-counts
returns-clause-counts g c = let v = g.V.Volume in line_counts v.seen v.moment v.left_at v.tells_contents v.faults v.identity
