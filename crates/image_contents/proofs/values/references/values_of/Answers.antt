use Rattle.image_contents.proofs.ValuesStand.{values_stand_in}
use Rattle.image_contents.proofs.values.references.values_of.Goals as goal

pub returns-then-is_row : goal.returns-then-is_row
returns-then-is_row c = values_stand_in c.rows_are_read_back.ensures c.args.row.now (c.is_row.ensures.0 c.if-is_row.true)
