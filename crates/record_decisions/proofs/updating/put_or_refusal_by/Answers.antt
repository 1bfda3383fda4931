use Rattle.session_local.specs.Preparing.{update_of}
use Rattle.record_decisions.specs.Changing.{room_in}
use Rattle.record_decisions.specs.Updating.{put_by, record_in}
use Rattle.record_decisions.proofs.PutSteps.{full-refused, put-refused, with-room}
use Rattle.record_decisions.proofs.updating.put_or_refusal_by.Goals as goal

pub returns-in-Ok-Some : goal.returns-in-Ok-Some
returns-in-Ok-Some c =
    let engine = c.args.engine.now in
    let put = put_by engine c.args.session.0 c.args.found.now (update_of c.args.prepared.now) in
    put-refused (record_in engine c.args.session.0 c.args.found.now (update_of c.args.prepared.now)) (room_in engine put) put c.in-Ok-Some.refusal (rw c.in-Ok-Some.field-0-is at c.in-Ok-Some.ensures)

pub returns-then-is_full : goal.returns-then-is_full
returns-then-is_full c =
    let engine = c.args.engine.now in
    full-refused (record_in engine c.args.session.0 c.args.found.now (update_of c.args.prepared.now)) engine (put_by engine c.args.session.0 c.args.found.now (update_of c.args.prepared.now)) c.is_full.result
    (rw c.in-Ok-None.field-0-is at c.in-Ok-None.ensures) c.is_full.ensures c.if-is_full.true

pub returns : goal.returns
returns c =
    let engine = c.args.engine.now in
    with-room (record_in engine c.args.session.0 c.args.found.now (update_of c.args.prepared.now)) engine (put_by engine c.args.session.0 c.args.found.now (update_of c.args.prepared.now)) c.is_full.result c.put_with_room.result
    (rw c.in-Ok-None.field-0-is at c.in-Ok-None.ensures) c.is_full.ensures c.if-is_full.false c.put_with_room.ensures
