use Rattle.log_grammar.proofs.FrontLaws.{one_spelling}
use Rattle.log_grammar.proofs.reading.entries_have_one_spelling.Goals as goal

pub returns : goal.returns
returns c = one_spelling
