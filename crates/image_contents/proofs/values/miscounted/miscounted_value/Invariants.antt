use Rattle.std.proofs.Common.{◌≡◌, length}
use Rattle.btree_inplace.specs.Trees.{nodes_of}
use Rattle.image_contents.specs.ValueCounts.{count_in, first_finding}
use Rattle.image_contents.proofs.values.miscounted.miscounted_value.Given as goal

-- The nodes that are left lead to where all lead.
abbrev pub invariant-loop-node : goal.invariant-loop-node
invariant-loop-node l = first_finding (count_in l.counts) l.walk ≡ first_finding (count_in l.counts) (nodes_of l.fn.space l.fn.table.long_values)

abbrev pub decreases-loop-node : goal.decreases-loop-node
decreases-loop-node l = length l.walk
