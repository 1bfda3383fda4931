use Rattle.std.proofs.Common.{refl}
use Rattle.log_ring.proofs.laws.first_block.Goals as goal

pub returns : goal.returns
returns c = refl
