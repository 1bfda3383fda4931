-- The changes so far follow.
use Rattle.std.proofs.Common.{◌≡◌, true, take}
use Rattle.image_live.specs.Orders.{all_follow}
use Rattle.image_live.proofs.order.all_follow.Given as goal

abbrev pub invariant-loop-place : goal.invariant-loop-place
invariant-loop-place l = all_follow (take l.place l.changes) ≡ true
