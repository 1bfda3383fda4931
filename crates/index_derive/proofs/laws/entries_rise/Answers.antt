use Rattle.index_derive.proofs.Bridge.{rising_list}
use Rattle.index_derive.proofs.laws.entries_rise.Goals as goal

pub returns : goal.returns
returns c = rising_list
