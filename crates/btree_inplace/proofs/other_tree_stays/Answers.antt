-- Its pages were taken, so they are not among those that the change took.
use Rattle.btree_inplace.proofs.Laws.{other_stays}
use Rattle.btree_inplace.proofs.other_tree_stays.Goals as goal

pub returns : goal.returns
returns c old new before after tree e is apart = other_stays old new before after tree e is apart
