-- Each page has few nodes, and each page of the space is one of the tree once at most.
use Rattle.btree_inplace.proofs.Fitting.{nodes_fit}
use Rattle.btree_inplace.proofs.nodes_fit_their_space.Goals as goal

pub returns : goal.returns
returns c frames tree is = nodes_fit c.nodes_of_a_page_are_few.ensures frames tree is
