use Rattle.std.proofs.Common.{◌+◌, ◌*◌, ◌≤◌, ◌-◌, length}
use Rattle.tool_dump.specs.LogSteps.{HasAppended}
use Rattle.tool_dump.proofs.entries.append_log.Given as goal

-- An entry has nine bytes at least, so the number has room.
abbrev pub invariant-loop-at : goal.invariant-loop-at
invariant-loop-at l = record {
  within : l.at ≤ length l.bytes;
  few : 9 * l.last ≤ 9 * l.number + l.at;
  on : HasAppended l.number l.bytes l.fn.text.items l.text.items l.at l.last;
}

abbrev pub decreases-loop-at : goal.decreases-loop-at
decreases-loop-at l = length l.bytes - l.at
