-- An item of eight bits is below 256.
use Rattle.std.proofs.Common.{arith}
use Rattle.engine_image.proofs.bytes.items_are_bytes.Goals as goal

pub returns : goal.returns
returns c i = omega (arith, c.type_inv.bytes i)
