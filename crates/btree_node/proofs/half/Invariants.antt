use Rattle.std.proofs.Common.{◌≡◌, ◌-◌, ◌≤◌, length, take}
use Rattle.page_image.specs.Page.{page_size}
use Rattle.btree_node.proofs.half.Given as goal

abbrev pub invariant-loop-m : goal.invariant-loop-m
invariant-loop-m l = record {
  within : l.m ≤ length l.page.nodes;
  used : l.used ≡ page_size (take l.m l.page.nodes);
  half : l.used ≤ 2064;
}

abbrev pub decreases-loop-m : goal.decreases-loop-m
decreases-loop-m l = length l.page.nodes - l.m
