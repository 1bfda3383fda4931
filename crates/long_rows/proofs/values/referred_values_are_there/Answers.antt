use Rattle.long_rows.proofs.Taken.{referred}
use Rattle.long_rows.proofs.values.referred_values_are_there.Goals as goal

pub returns : goal.returns
returns c values rows held id long has = referred values rows held id long has
