use Rattle.std.proofs.Common.{◌≡◌, ◌+◌, ◌-◌}
use Rattle.tree_check.specs.Walks.{depth_within}
use Rattle.tree_check.proofs.walk.depth_of.Given as goal

abbrev pub invariant-loop-level : goal.invariant-loop-level
invariant-loop-level l = depth_within 64 l.fn.space l.fn.root ≡ l.level + depth_within (64 - l.level) l.fn.space l.page
