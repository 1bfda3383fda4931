use Rattle.std.proofs.Common.{◌≡◌, length}
use Rattle.btree_inplace.specs.Trees.{nodes_of}
use Rattle.image_contents.specs.ValuePass.{IsWithin, all_passed, pass_of, whole}
use Rattle.image_contents.proofs.values.whole.broken_value.Given as goal

-- The nodes that are left lead to where all lead.
abbrev pub invariant-loop-node : goal.invariant-loop-node
invariant-loop-node l = (all_passed l.fn.number (pass_of l.progress) l.walk ≡ all_passed l.fn.number whole (nodes_of l.fn.space l.fn.table.long_values)) × IsWithin (pass_of l.progress)

abbrev pub decreases-loop-node : goal.decreases-loop-node
decreases-loop-node l = length l.walk
