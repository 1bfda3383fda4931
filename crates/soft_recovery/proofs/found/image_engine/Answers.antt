use Rattle.std.proofs.Common.{ap}
use Rattle.engine_image.specs.OpenedImages.{contents_of}
use Rattle.laws_engine.specs.EngineState.{EngineState}
use Rattle.soft_recovery.proofs.ShownEngines.{image_refused, image_shown, may_replay_image, room_of}
use Rattle.soft_recovery.proofs.found.image_engine.Goals as goal

pub from_image-requires : goal.from_image-requires
from_image-requires c = c.requires

pub returns-in-Ok-clause-may : goal.returns-in-Ok-clause-may
returns-in-Ok-clause-may c =
    let image = contents_of c.args.image in
    let made = c.in-Ok.ensures in
    may_replay_image c.args.limit image c.in-Ok.engine (record { is = made.engine; holds = made.holds; consistent = made.consistent })
    (c.each_check_of_a_consistent_image_passes.ensures image made.consistent) (c.the_state_of_a_consistent_image_is_sound.ensures image made.bytes made.consistent)

pub returns-in-Ok-clause-shown : goal.returns-in-Ok-clause-shown
returns-in-Ok-clause-shown c standing =
    let made = c.in-Ok.ensures in
    image_shown c.args.limit c.args.image standing c.in-Ok.engine (record { is = made.engine; holds = made.holds; consistent = made.consistent })

pub returns-in-Ok-clause-limit : goal.returns-in-Ok-clause-limit
returns-in-Ok-clause-limit c = ap (λ (e : EngineState). e.limit) c.in-Ok.ensures.engine

pub returns-in-Err-clause-refused : goal.returns-in-Err-clause-refused
returns-in-Err-clause-refused c standing = image_refused c.args.image standing c.in-Err.fault c.in-Err.ensures.fault

pub returns-in-Ok-clause-room : goal.returns-in-Ok-clause-room
returns-in-Ok-clause-room c =
    let image = contents_of c.args.image in
    room_of c.args.limit image c.in-Ok.engine c.in-Ok.ensures.engine (c.each_check_of_a_consistent_image_passes.ensures image c.in-Ok.ensures.consistent)

pub returns-in-Ok-clause-numbers : goal.returns-in-Ok-clause-numbers
returns-in-Ok-clause-numbers c standing = (ap (λ (e : EngineState). e.number) c.in-Ok.ensures.engine, ap (λ (e : EngineState). e.sessions) c.in-Ok.ensures.engine)
