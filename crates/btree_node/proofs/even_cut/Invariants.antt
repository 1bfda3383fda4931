use Rattle.std.proofs.Common.{ℕ, ◌+◌, ◌-◌, ◌≡◌, ◌≤◌, sum, take}
use Rattle.btree_node.specs.Cut.{sizes_with}
use Rattle.btree_node.proofs.even_cut.Given as goal

abbrev pub invariant-loop-m : goal.invariant-loop-m
invariant-loop-m l = record {
  within : l.m ≤ l.count;
  total : l.before ≡ sum (take l.m (sizes_with l.page.nodes l.i l.need));
  left : l.before ≤ 4064;
  less : (j : ℕ) → j + 1 ≡ l.m → sum (take j (sizes_with l.page.nodes l.i l.need)) + sum (take l.m (sizes_with l.page.nodes l.i l.need)) ≤ sum (sizes_with l.page.nodes l.i l.need);
}

abbrev pub decreases-loop-m : goal.decreases-loop-m
decreases-loop-m l = l.count - l.m
