use Rattle.session_local.specs.Preparing.{update_of}
use Rattle.record_decisions.specs.Updating.{put_by}
use Rattle.record_decisions.proofs.PutSteps.{span-made, span-refused}
use Rattle.record_decisions.proofs.updating.put_with_room.Goals as goal

pub returns-then-lacks_room : goal.returns-then-lacks_room
returns-then-lacks_room c =
    span-refused c.args.engine.now (put_by c.args.engine.now c.args.session.0 c.args.found.now (update_of c.args.prepared.now)) c.in-Ok.put c.lacks_room.result c.in-Ok.ensures c.lacks_room.ensures c.if-lacks_room.true

pub returns : goal.returns
returns c =
    span-made c.args.engine.now (put_by c.args.engine.now c.args.session.0 c.args.found.now (update_of c.args.prepared.now)) c.in-Ok.put c.lacks_room.result c.in-Ok.ensures c.lacks_room.ensures c.if-lacks_room.false
