use Rattle.catalog_grammar.proofs.ItemLaws.{one_spelling}
use Rattle.catalog_grammar.proofs.laws.nodes_have_one_spelling.Goals as goal

pub returns : goal.returns
returns c = one_spelling
