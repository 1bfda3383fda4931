use Rattle.std.proofs.Common.{arith}
use Rattle.image_opening.proofs.TaggedParts.{tells_enough}
use Rattle.image_opening.proofs.told.tells_all.Goals as goal

pub returns : goal.returns
returns c = λ greatest. tells_enough greatest c.args.count c.args.tables.now c.saturating_sub-left.result c.left_after.result (omega arith) c.left_after.ensures
