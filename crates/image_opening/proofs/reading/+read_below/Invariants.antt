use Rattle.std.proofs.Common.{◌-◌}
use Rattle.image_opening.specs.ReadNodes.{ReadsNodes}
use Rattle.image_opening.proofs.NodesRead.{below_first}
use Rattle.image_opening.proofs.reading.+read_below.Given as goal

abbrev pub decreases-read_below : goal.decreases-read_below
decreases-read_below l = l.depth

-- What stands below the children so far is read.
abbrev pub invariant-loop-i : goal.invariant-loop-i
invariant-loop-i l = ReadsNodes (below_first (l.fn.depth - 1) l.fn.space l.fn.page l.i) l.fn.items.items l.items.items
