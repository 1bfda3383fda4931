use Rattle.history_word.proofs.Logs.{own_stays}
use Rattle.history_word.proofs.laws.entries_between_are_of_others.Goals as goal

pub returns : goal.returns
returns c = own_stays
