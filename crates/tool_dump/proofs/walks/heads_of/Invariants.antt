use Rattle.std.proofs.Common.{◌≡◌, ◌≤◌, take}
use Rattle.std.specs.Prelude.{count_by}
use Rattle.long_value.specs.Shown.{is_head}
use Rattle.tool_dump.proofs.walks.heads_of.Given as goal

-- The nodes so far are counted.
abbrev pub invariant-loop-i : goal.invariant-loop-i
invariant-loop-i l = record {
  few : l.count ≤ l.i;
  is : l.count ≡ count_by is_head (take l.i l.page.nodes);
}
