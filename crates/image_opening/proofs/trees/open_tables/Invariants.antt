use Rattle.std.proofs.Common.{take}
use Rattle.image_opening.proofs.WalkedLists.{TablesWalked}
use Rattle.image_opening.proofs.trees.open_tables.Given as goal

-- The first tables' trees are walked.
abbrev pub invariant-loop-table : goal.invariant-loop-table
invariant-loop-table l = TablesWalked l.space (take l.table-index l.roots) l.opened.items l.fn.marks l.marks
