use Rattle.kept_engine.proofs.WholeRuns.{run_begins, run_ends, run_goes_on, run_now, run_stops}
use Rattle.kept_engine.proofs.runs.a_run_is_kept_line_by_line.Goals as goal

pub returns-clause-begins : goal.returns-clause-begins
returns-clause-begins g c = run_begins g.V.Volume.seen g.V.Volume.moment g.V.Volume.left_at c.entries_to_come_change_nothing.ensures.lower

pub returns-clause-goes_on : goal.returns-clause-goes_on
returns-clause-goes_on g c = run_goes_on g.V.Volume.seen g.V.Volume.moment g.V.Volume.left_at c.entries_to_come_change_nothing.ensures.lower c.entries_to_come_change_nothing.ensures.more

pub returns-clause-stops : goal.returns-clause-stops
returns-clause-stops g c = run_stops g.V.Volume.seen g.V.Volume.moment g.V.Volume.left_at c.entries_to_come_change_nothing.ensures.lower c.entries_to_come_change_nothing.ensures.more

pub returns-clause-now : goal.returns-clause-now
returns-clause-now g c = run_now g.V.Volume.seen g.V.Volume.moment g.V.Volume.left_at c.entries_to_come_change_nothing.ensures.lower c.what_is_kept_stands.ensures.now

pub returns-clause-ends : goal.returns-clause-ends
returns-clause-ends g c = run_ends g.V.Volume.seen g.V.Volume.moment g.V.Volume.left_at c.entries_to_come_change_nothing.ensures.lower
