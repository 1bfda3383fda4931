use Rattle.std.proofs.Common.{◌≤◌, ◌-◌, length}
use Rattle.std.specs.Vec.{vec_capacity}
use Rattle.page_space.proofs.FrameLemmas.{FreeFrom}
use Rattle.page_space.proofs.free_pages.Given as goal

-- The marks are looked at from the last one on.
abbrev pub invariant-loop-above : goal.invariant-loop-above
invariant-loop-above l = record {
  free : FreeFrom l.taken (length l.taken - l.above) l.free.items;
  room : length l.taken ≤ vec_capacity l.free;
}
