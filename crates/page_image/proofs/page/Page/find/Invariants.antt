use Rattle.std.proofs.Common.{◌-◌, ℕ, ◌<◌, ◌≤◌, length}
use Rattle.page_image.specs.Page.{IsBelow, node_at}
use Rattle.page_image.proofs.page.Page.find.Given as goal

abbrev pub invariant-loop-low : goal.invariant-loop-low
invariant-loop-low l = record {
  order : l.low ≤ l.high;
  within : l.high ≤ length l.self.nodes;
  from : l.low ≤ l.probe;
  upto : l.low < l.high → l.probe < l.high;
  reach : l.reach ≤ 677;
  below : (k : ℕ) → k < l.low → IsBelow (node_at l.self.nodes k).key l.key;
  above : (k : ℕ) → l.high ≤ k → k < length l.self.nodes → IsBelow l.key (node_at l.self.nodes k).key;
}

abbrev pub decreases-loop-low : goal.decreases-loop-low
decreases-loop-low l = l.high - l.low
