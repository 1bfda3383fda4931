-- By the pages, from the root down.
use Rattle.btree_inplace.specs.Trees.{pages_of}
use Rattle.btree_inplace.proofs.Counting.{copies-Contains}
use Rattle.btree_inplace.proofs.Laws.{used}
use Rattle.btree_inplace.proofs.no_page_is_empty.Goals as goal

pub returns : goal.returns
returns c frames tree is some p there = used tree.depth frames tree.root is.shape some p (copies-Contains (pages_of frames tree) p there)
