use Rattle.image_contents.proofs.ValuesStand.{column_is}
use Rattle.image_contents.proofs.rows.fitting.column_of.Goals as goal

pub returns : goal.returns
returns c x may is = column_is c.args.value.now c.from_le_bytes.result x may is c.from_le_bytes.ensures
