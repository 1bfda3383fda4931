use Rattle.jet_volume.proofs.Bytes.{front_torn}
use Rattle.jet_volume.proofs.laws.a_front_came_in_part.Goals as goal

pub returns : goal.returns
returns c = front_torn
