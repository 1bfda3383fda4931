use Rattle.std.proofs.Common.{[], ◌-◌, take}
use Rattle.std.specs.List.{flat_map}
use Rattle.btree_inplace.specs.Alterations.{Swaps}
use Rattle.btree_inplace.specs.Shape.{page_in}
use Rattle.btree_inplace.proofs.Discarding.{part}
use Rattle.btree_inplace.proofs.discard.+give_back_below.Given as goal

abbrev pub decreases-give_back_below : goal.decreases-give_back_below
decreases-give_back_below l = l.depth

-- The pages below the children so far are given back.
abbrev pub invariant-loop-i : goal.invariant-loop-i
invariant-loop-i l = Swaps l.fn.space l.space (flat_map (part (l.depth - 1) l.fn.space) (take l.i (page_in l.fn.space l.page).nodes)) []
