use Rattle.std.proofs.Common.{◌≡◌, ℕ, ◌+◌, ◌^◌, ◌<◌, ◌≤◌, sym, subst, arith}
use Rattle.laws_engine.specs.EngineState.{EngineState, HasRoomForEnds}
use Rattle.laws_engine.specs.EngineSteps.{engine_after_step}
use Rattle.engine_core.specs.Steps.{MayTake}
use Rattle.loggable_steps.specs.Loggable.{made_by}
use Rattle.engine_core.specs.Ends.{Follows, begun_bytes, ended_bytes}
use Rattle.engine_core.specs.LoggedState.{HasRoom, LoggedState}
use Rattle.engine_core.proofs.LogBytes.{step_short}
use Rattle.engine_core.proofs.Rooms.{bytes_few, bytes_within, cursors_few, end_few, ends_there, lacking, own_open, own_within, room_counted}
use Rattle.engine_core.proofs.logging.logged.LoggedEngine.apply.Goals as goal

pub own_bytes-own-requires-clause-few : goal.own_bytes-own-requires-clause-few
own_bytes-own-requires-clause-few c =
    let room = subst (λ (s : LoggedState). HasRoomForEnds s.engine) (sym c.self.view_is) c.requires.room in
    cursors_few (made_by c.args.step.now).session.0 c.self.inside.engine c.self.inside.log c.self.inside.ends c.self.invariant (c.ends_always_find_room.ensures.most c.self.inside.engine room)

pub own_bytes-own-requires-clause-open : goal.own_bytes-own-requires-clause-open
own_bytes-own-requires-clause-open c = c.self.invariant.exact.cursors (made_by c.args.step.now).session.0

pub invariant_of-self : goal.invariant_of-self
invariant_of-self c =
    let lawful = subst (λ (s : LoggedState). MayTake s.engine c.args.step.now) (sym c.self.view_is) c.requires.lawful in
    let law = c.what_is_begun_keeps_the_bytes_of_its_end.ensures.step c.self.inside.engine c.args.step.now lawful in
    let follows = c.ends_follow_their_steps.ensures c.self.inside.engine c.args.step.now lawful in
    let by = made_by c.args.step.now in
    let counted = subst (λ (n : ℕ). c.ends_after-ends.result + ended_bytes by.kind ≡ n + begun_bytes by.kind) c.bytes.ensures c.ends_after-ends.ensures in
    let room = subst (λ (s : LoggedState). HasRoomForEnds s.engine) (sym c.self.view_is) c.requires.room in
    let after = engine_after_step c.self.inside.engine c.args.step.now in
    let most = c.ends_always_find_room.ensures.most after (c.ends_always_find_room.ensures.step c.self.inside.engine lawful.state c.args.step.now lawful.holds lawful.lawful lawful.built lawful.typed room) in
    let short = step_short c.self.inside.engine c.args.step.now lawful c.the_step_can_be_logged.ensures most in
    room_counted c.self.inside.engine c.make.new.engine c.self.inside.log c.make.new.log c.self.inside.ends c.count_anew.new.ends c.ends_after-ends.result c.own_bytes-own.result c.args.step.now
    c.self.invariant short c.requires.label law follows c.own_bytes-own.ensures counted c.in-Ok.ensures.engine c.in-Ok.ensures.stream c.in-Ok.ensures.ends c.count_anew.ensures

pub make-requires-clause-short : goal.make-requires-clause-short
make-requires-clause-short c = omega (arith, end_few c.self.inside.engine c.self.inside.log c.self.inside.ends c.self.invariant)

pub ends_after-ends-requires-clause-few : goal.ends_after-ends-requires-clause-few
ends_after-ends-requires-clause-few c =
    let room = subst (λ (s : LoggedState). HasRoomForEnds s.engine) (sym c.self.view_is) c.requires.room in
    subst (λ (n : ℕ). n < 2 ^ 40) (sym c.bytes.ensures) (bytes_few c.self.inside.engine c.self.inside.log c.self.inside.ends c.self.invariant (c.ends_always_find_room.ensures.most c.self.inside.engine room))

pub ends_after-ends-requires-clause-there : goal.ends_after-ends-requires-clause-there
ends_after-ends-requires-clause-there c =
    let lawful = subst (λ (s : LoggedState). MayTake s.engine c.args.step.now) (sym c.self.view_is) c.requires.lawful in
    let by = made_by c.args.step.now in
    subst (λ (n : ℕ). ended_bytes by.kind ≤ n + begun_bytes by.kind) (sym c.bytes.ensures)
    (ends_there c.args.step.now c.self.inside.engine c.self.inside.log c.self.inside.ends c.self.invariant (c.what_is_begun_keeps_the_bytes_of_its_end.ensures.step c.self.inside.engine c.args.step.now lawful))

pub count_anew-requires-clause-few : goal.count_anew-requires-clause-few
count_anew-requires-clause-few c =
    let room = subst (λ (s : LoggedState). HasRoomForEnds s.engine) (sym c.self.view_is) c.requires.room in
    bytes_few c.self.inside.engine c.self.inside.log c.self.inside.ends c.self.invariant (c.ends_always_find_room.ensures.most c.self.inside.engine room)

pub count_anew-requires-clause-few_cursors : goal.count_anew-requires-clause-few_cursors
count_anew-requires-clause-few_cursors c =
    let room = subst (λ (s : LoggedState). HasRoomForEnds s.engine) (sym c.self.view_is) c.requires.room in
    cursors_few (made_by c.args.step.now).session.0 c.self.inside.engine c.self.inside.log c.self.inside.ends c.self.invariant (c.ends_always_find_room.ensures.most c.self.inside.engine room)

pub count_anew-requires-clause-open : goal.count_anew-requires-clause-open
count_anew-requires-clause-open c =
    let by = made_by c.args.step.now in
    let lawful = subst (λ (s : LoggedState). MayTake s.engine c.args.step.now) (sym c.self.view_is) c.requires.lawful in
    let follows = subst (λ (e : EngineState). Follows by.session.0 by.kind c.self.inside.engine.sessions e.sessions) (sym c.in-Ok.ensures.engine) (c.ends_follow_their_steps.ensures c.self.inside.engine c.args.step.now lawful) in
    own_open by.session.0 by.kind c.self.inside.engine c.make.new.engine.sessions c.self.inside.log c.self.inside.ends c.self.invariant follows

pub count_anew-requires-clause-own : goal.count_anew-requires-clause-own
count_anew-requires-clause-own c =
    let by = made_by c.args.step.now in
    let lawful = subst (λ (s : LoggedState). MayTake s.engine c.args.step.now) (sym c.self.view_is) c.requires.lawful in
    let follows = subst (λ (e : EngineState). Follows by.session.0 by.kind c.self.inside.engine.sessions e.sessions) (sym c.in-Ok.ensures.engine) (c.ends_follow_their_steps.ensures c.self.inside.engine c.args.step.now lawful) in
    own_within by.session.0 by.kind c.self.inside.engine c.make.new.engine.sessions c.self.inside.log c.self.inside.ends c.own_bytes-own.result c.self.invariant follows c.own_bytes-own.ensures

pub returns-in-Err-clause-memory : goal.returns-in-Err-clause-memory
returns-in-Err-clause-memory c =
    let by = made_by c.args.step.now in
    let counted = subst (λ (n : ℕ). c.ends_after-ends.result + ended_bytes by.kind ≡ n + begun_bytes by.kind) c.bytes.ensures c.ends_after-ends.ensures in
    lacking c.args.step.now c.self.inside.ends.bytes c.ends_after-ends.result c.self.inside.log.room (bytes_within c.self.inside.engine c.self.inside.log c.self.inside.ends c.self.invariant) counted c.in-Err.ensures.memory
