use Rattle.std.proofs.Common.{ℕ, ◌<◌, ◌≤◌, get_or}
use Rattle.page_image.specs.Page.{Node, node_size}
use Rattle.tests_trees.proofs.nodes.all_small.Given as goal

abbrev pub invariant-loop-i : goal.invariant-loop-i
invariant-loop-i l = (k : ℕ) (d : Node) → k < l.i → node_size (get_or l.page.nodes k d) ≤ 2032
