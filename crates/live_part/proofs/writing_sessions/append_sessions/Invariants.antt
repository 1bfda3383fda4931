use Rattle.std.proofs.Common.{◌≡◌, ◌++◌, length, take}
use Rattle.std.specs.Int.{w32, to_le_bytes}
use Rattle.std.specs.List.{AllByRecursion, flat_map}
use Rattle.live_part.specs.LiveBytes.{session_bytes}
use Rattle.live_part.specs.Written.{HasFewTables}
use Rattle.live_part.proofs.writing_sessions.append_sessions.Given as goal

-- the count and the sessions so far stand there
abbrev pub invariant-loop-place : goal.invariant-loop-place
invariant-loop-place l = record {
  items : l.into.items ≡ l.fn.into.items ++ (to_le_bytes w32 (length l.sessions) ++ flat_map session_bytes (take l.place l.sessions));
  few : AllByRecursion HasFewTables (take l.place l.sessions);
}
