use Rattle.std.proofs.Common.{◌≡◌, [], replicate}
use Rattle.script_text.proofs.recent.RecentLines.new.Given as goal

abbrev pub invariant-loop : goal.invariant-loop
invariant-loop l = l.lines.items ≡ replicate l.counter ([], 0)
