use Rattle.image_live.proofs.RoomLeft.{behind, lacking}
use Rattle.image_live.proofs.sessions.have_room.Goals as goal

pub returns-in-None : goal.returns-in-None
returns-in-None c = lacking c.args.number c.args.sessions.now c.loop-place.place c.loop-place.left c.ends_of.result c.at.result.now c.at.ensures c.ends_of.ensures c.in-None.ensures c.loop-place.invariant

pub loop-place-preserved : goal.loop-place-preserved
loop-place-preserved c = behind c.args.number c.args.sessions.now c.loop-place.place c.loop-place.left c.ends_of.result c.in-Some.rest c.at.result.now c.at.ensures c.ends_of.ensures c.in-Some.ensures c.loop-place.invariant
