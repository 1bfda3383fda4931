-- What is left of the room decides.
use Rattle.image_live.proofs.RoomLeft.{LeftDecides}
use Rattle.image_live.proofs.sessions.have_room.Given as goal

abbrev pub invariant-loop-place : goal.invariant-loop-place
invariant-loop-place l = LeftDecides l.fn.number l.sessions l.left l.place
