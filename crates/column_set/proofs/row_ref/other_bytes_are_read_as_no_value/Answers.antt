use Rattle.column_set.proofs.Spelling.{no_row_in}
use Rattle.column_set.proofs.row_ref.other_bytes_are_read_as_no_value.Goals as goal

pub returns : goal.returns
returns c = no_row_in
