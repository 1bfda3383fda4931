use Rattle.std.proofs.Common.{◌≡◌, length, take}
use Rattle.live_part.specs.LiveBytes.{standing}
use Rattle.live_part.proofs.writing_changes.count_standing.Given as goal

abbrev pub invariant-loop-place : goal.invariant-loop-place
invariant-loop-place l = l.count ≡ length (standing (take l.place l.versions))
