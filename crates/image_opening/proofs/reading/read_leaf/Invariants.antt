use Rattle.std.proofs.Common.{take}
use Rattle.image_opening.specs.ReadNodes.{ReadsNodes}
use Rattle.image_opening.proofs.reading.read_leaf.Given as goal

-- The nodes so far are read.
abbrev pub invariant-loop-i : goal.invariant-loop-i
invariant-loop-i l = ReadsNodes (take l.i l.leaf.nodes) l.fn.items.items l.items.items
