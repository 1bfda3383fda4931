use Rattle.load_gen.proofs.Counts.{rows_more}
use Rattle.load_gen.proofs.summary.rows_are_counted_one_by_one.Goals as goal

pub returns-clause-next : goal.returns-clause-next
returns-clause-next c = rows_more
