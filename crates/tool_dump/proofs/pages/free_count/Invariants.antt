use Rattle.std.proofs.Common.{◌≡◌, ◌≤◌, take}
use Rattle.std.specs.Prelude.{count_by, is_none}
use Rattle.tool_dump.proofs.pages.free_count.Given as goal

-- The free pages so far are counted.
abbrev pub invariant-loop-page : goal.invariant-loop-page
invariant-loop-page l = record {
  few : l.count ≤ l.page;
  is : l.count ≡ count_by is_none (take l.page l.space);
}
