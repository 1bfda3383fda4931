use Rattle.long_rows.proofs.Totals.{refers_once}
use Rattle.long_rows.proofs.counts.a_row_refers_once.Goals as goal

pub returns : goal.returns
returns c id row = refers_once id row
