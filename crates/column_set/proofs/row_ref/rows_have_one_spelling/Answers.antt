use Rattle.column_set.proofs.Spelling.{one_spelling}
use Rattle.column_set.proofs.row_ref.rows_have_one_spelling.Goals as goal

pub returns : goal.returns
returns c = one_spelling
