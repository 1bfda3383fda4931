use Rattle.std.proofs.Common.{◌≡◌, ◌-◌, length, take}
use Rattle.std.specs.List.{flat_map}
use Rattle.btree_inplace.specs.Shape.{page_in}
use Rattle.btree_inplace.proofs.Measures.{entries_under}
use Rattle.btree_inplace.proofs.counts.+nodes_below.Given as goal

abbrev pub decreases-nodes_below : goal.decreases-nodes_below
decreases-nodes_below l = l.depth

-- What stands below the children so far is counted.
abbrev pub invariant-loop-i : goal.invariant-loop-i
invariant-loop-i l = l.count ≡ length (flat_map (entries_under (l.fn.depth - 1) l.fn.space) (take l.i (page_in l.fn.space l.fn.page).nodes))
