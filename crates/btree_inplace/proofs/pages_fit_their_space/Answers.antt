-- Each page of the space is one of the tree once at most.
use Rattle.btree_inplace.proofs.Fitting.{pages_fit}
use Rattle.btree_inplace.proofs.pages_fit_their_space.Goals as goal

pub returns : goal.returns
returns c frames tree is = pages_fit frames tree is
