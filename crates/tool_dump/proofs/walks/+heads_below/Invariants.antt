use Rattle.std.proofs.Common.{◌≡◌, ◌-◌}
use Rattle.std.specs.Prelude.{count_by}
use Rattle.long_value.specs.Shown.{is_head}
use Rattle.tool_dump.proofs.Walking.{below_first}
use Rattle.tool_dump.proofs.walks.+heads_below.Given as goal

abbrev pub decreases-heads_below : goal.decreases-heads_below
decreases-heads_below l = l.depth

-- What stands below the children so far is counted.
abbrev pub invariant-loop-i : goal.invariant-loop-i
invariant-loop-i l = l.count ≡ count_by is_head (below_first (l.fn.depth - 1) l.fn.space l.fn.page l.i)
