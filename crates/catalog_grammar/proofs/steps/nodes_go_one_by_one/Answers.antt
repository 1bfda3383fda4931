use Rattle.catalog_grammar.proofs.Nodes.{one_more_goes}
use Rattle.catalog_grammar.proofs.steps.nodes_go_one_by_one.Goals as goal

pub returns : goal.returns
returns c = one_more_goes
