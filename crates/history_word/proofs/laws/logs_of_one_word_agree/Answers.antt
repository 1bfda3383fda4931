use Rattle.history_word.proofs.Logs.{prefixes_agree}
use Rattle.history_word.proofs.laws.logs_of_one_word_agree.Goals as goal

pub returns : goal.returns
returns c = prefixes_agree
