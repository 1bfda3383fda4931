use Rattle.image_contents.proofs.ValuesStand.{has_kept}
use Rattle.image_contents.proofs.rows.fitting.has_value.Goals as goal

pub returns : goal.returns
returns c = has_kept c.args.row.now c.args.column.0 c.count.result c.count.ensures
