use Rattle.catalog_grammar.proofs.ReadBack.{read_back, told_again}
use Rattle.catalog_grammar.proofs.laws.catalogs_are_read_back.Goals as goal

pub returns-clause-told : goal.returns-clause-told
returns-clause-told c = told_again

pub returns-clause-same : goal.returns-clause-same
returns-clause-same c = read_back
