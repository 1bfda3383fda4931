use Rattle.std.proofs.Common.{refl}
use Rattle.jet_base.specs.ByteHash.{mixed}
use Rattle.jet_base.proofs.small_bytes.mixed.Goals as goal

pub returns : goal.returns
unfolding mixed
returns c = refl
