use Rattle.std.proofs.Common.{◌≡◌, ◌++◌, length, take}
use Rattle.std.specs.Int.{w32, to_le_bytes}
use Rattle.std.specs.List.{AllByRecursion, flat_map}
use Rattle.live_part.specs.LiveBytes.{held_bytes, standing}
use Rattle.live_part.specs.Written.{IsTold}
use Rattle.live_part.proofs.writing_changes.append_changes.Given as goal

-- the count and the changes so far that stand are there
abbrev pub invariant-loop-place : goal.invariant-loop-place
invariant-loop-place l = record {
  items : l.into.items ≡ l.fn.into.items ++ (to_le_bytes w32 (length (standing l.versions)) ++ flat_map held_bytes (standing (take l.place l.versions)));
  told : AllByRecursion IsTold (standing (take l.place l.versions));
}
