use Rattle.column_set.proofs.Spelling.{row_in_spelled, only_row_in}
use Rattle.column_set.proofs.row_ref.RowRef.new.Goals as goal

pub returns-clause-found : goal.returns-clause-found
returns-clause-found c = (row_in_spelled c.args.bytes.now c.requires).formed

pub returns-clause-spelled : goal.returns-clause-spelled
returns-clause-spelled c = (row_in_spelled c.args.bytes.now c.requires).spelled

pub returns-clause-only : goal.returns-clause-only
returns-clause-only c = only_row_in c.args.bytes.now
