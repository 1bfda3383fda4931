use Rattle.column_set.proofs.Spelling.{row_in-row_bytes}
use Rattle.column_set.proofs.row_ref.rows_are_read_back.Goals as goal

pub returns : goal.returns
returns c = row_in-row_bytes
