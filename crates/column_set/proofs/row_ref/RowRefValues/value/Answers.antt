use Rattle.column_set.specs.RowSeen.{seen}
use Rattle.column_set.proofs.OneColumn.{value_in_place, no_value}
use Rattle.column_set.proofs.row_ref.RowRefValues.value.Goals as goal

pub returns-in_err-bytes : goal.returns-in_err-bytes
returns-in_err-bytes c = rw c.from_residual.ensures (no_value c.args.self.now c.args.column.0 c.args.at c.in_err-bytes.ensures)

pub returns-in-Here : goal.returns-in-Here
returns-in-Here c = rw c.in-Here.is at (value_in_place c.args.self.now c.args.column.0 c.args.at (seen c.in_ok-bytes.field-0) c.in_ok-bytes.ensures)

pub returns-in-Apart : goal.returns-in-Apart
returns-in-Apart c = rw c.in-Apart.is at (value_in_place c.args.self.now c.args.column.0 c.args.at (seen c.in_ok-bytes.field-0) c.in_ok-bytes.ensures)
