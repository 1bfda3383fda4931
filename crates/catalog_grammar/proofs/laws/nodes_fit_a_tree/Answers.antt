use Rattle.catalog_grammar.proofs.Sizes.{data_length, size_of_node}
use Rattle.catalog_grammar.proofs.laws.nodes_fit_a_tree.Goals as goal

pub returns-clause-bytes : goal.returns-clause-bytes
returns-clause-bytes c = data_length

pub returns-clause-size : goal.returns-clause-size
returns-clause-size c = size_of_node
