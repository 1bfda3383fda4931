use Rattle.std.proofs.Common.{take}
use Rattle.image_opening.proofs.WalkedLists.{IndexesWalked}
use Rattle.image_opening.proofs.trees.open_indexes.Given as goal

-- The first trees are walked.
abbrev pub invariant-loop-root : goal.invariant-loop-root
invariant-loop-root l = IndexesWalked l.space (take l.root-index l.roots) l.opened.items l.fn.marks l.marks
