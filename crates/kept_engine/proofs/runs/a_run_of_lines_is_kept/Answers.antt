use Rattle.kept_engine.proofs.MadeRuns.{lines_counts, lines_progress, lines_so_far, lines_stop, stop_counts}
use Rattle.kept_engine.proofs.runs.a_run_of_lines_is_kept.Goals as goal

pub returns-clause-goes_on : goal.returns-clause-goes_on
returns-clause-goes_on g c = let v = g.V.Volume in
    lines_so_far v.seen v.moment v.left_at v.tells_contents v.faults v.identity c.what_is_kept_stands.ensures.all c.what_is_kept_stands.ensures.now
    c.entries_to_come_change_nothing.ensures.lower c.entries_to_come_change_nothing.ensures.more

pub returns-clause-stops : goal.returns-clause-stops
returns-clause-stops g c = let v = g.V.Volume in
    lines_stop v.seen v.moment v.left_at v.tells_contents v.faults v.identity c.what_is_kept_stands.ensures.all c.what_is_kept_stands.ensures.now
    c.entries_to_come_change_nothing.ensures.lower c.entries_to_come_change_nothing.ensures.more

pub returns-clause-progress : goal.returns-clause-progress
returns-clause-progress g c = let v = g.V.Volume in lines_progress v.seen v.moment v.left_at v.tells_contents v.faults v.identity

pub returns-clause-counts : goal.returns-clause-counts
returns-clause-counts g c = let v = g.V.Volume in lines_counts v.seen v.moment v.left_at v.tells_contents v.faults v.identity

pub returns-clause-stop_counts : goal.returns-clause-stop_counts
returns-clause-stop_counts g c = let v = g.V.Volume in stop_counts v.seen v.moment v.left_at v.tells_contents v.faults v.identity
