-- Each page is the tree's own before, or afterwards, or neither.
use Rattle.btree_inplace.proofs.Laws.{taken_from, taken_then}
use Rattle.btree_inplace.proofs.taken_pages.Goals as goal

pub returns-clause-only : goal.returns-clause-only
returns-clause-only c old new before after e p taken = taken_then old new before after e p taken

pub returns-clause-all : goal.returns-clause-all
returns-clause-all c old new before tree is e p there = taken_from old new before tree is e p there
