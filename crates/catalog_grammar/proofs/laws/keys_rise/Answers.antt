use Rattle.catalog_grammar.proofs.Rising.{catalog_rises}
use Rattle.catalog_grammar.proofs.laws.keys_rise.Goals as goal

pub returns : goal.returns
returns c = catalog_rises
