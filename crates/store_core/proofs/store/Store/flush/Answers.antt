use Rattle.std.proofs.Common.{◌≢◌, inl, ◌≤◌, ◌++◌, refl, arith}
use Rattle.log_ring.specs.Appends.{GivesBeforeOrAfter}
use Rattle.store_core.specs.Stands.{start_of, StandsBeforeOrAfter}
use Rattle.store_core.specs.Store.{store_volume, store_standing}
use Rattle.store_core.proofs.Shows.{before_or_after}
use Rattle.store_core.proofs.Crashes.{began, unmoved, writable_stands, ring_changed, ring_stands}
use Rattle.store_core.proofs.store.Store.flush.Goals as goal

pub returns-in-Some-clause-any_moment : goal.returns-in-Some-clause-any_moment
returns-in-Some-clause-any_moment g c tells checkpoint stream is =
    unmoved g.V.Volume.seen g.V.Volume.moment g.V.Volume.left_at (store_volume c.args.self.now) (StandsBeforeOrAfter checkpoint stream c.args.bytes.now)
    (λ image left. inl (writable_stands g.V.Volume.seen g.V.Volume.moment g.V.Volume.left_at c.args.self.now checkpoint stream is image left))

pub returns-in-Ok-clause-flushed : goal.returns-in-Ok-clause-flushed
returns-in-Ok-clause-flushed g c tells checkpoint stream is =
    let one : 1 ≤ (start_of checkpoint).generation = began checkpoint c.args.self.now.standing c.args.self.now.ring.standing is.bears.copy c.args.self.now.follows c.args.self.now.ring.first in
    let some : (store_standing c.args.self.now).number ≢ 0 = λ zero. absurd (omega (arith, zero, c.requires.standing)) in
    ring_changed g.V.Volume.seen g.V.Volume.moment g.V.Volume.left_at c.args.self.now _ checkpoint (stream ++ c.args.bytes.now) (λ before log. GivesBeforeOrAfter (start_of checkpoint) stream c.args.bytes.now log) refl some is.bears
    (c.append.ensures.any_moment tells (start_of checkpoint) stream one is.ring)
    (c.in-Ok.ensures.appended tells (start_of checkpoint) stream one is.ring)

pub returns-in-Ok-clause-any_moment : goal.returns-in-Ok-clause-any_moment
returns-in-Ok-clause-any_moment g c tells checkpoint stream is =
    let one : 1 ≤ (start_of checkpoint).generation = began checkpoint c.args.self.now.standing c.args.self.now.ring.standing is.bears.copy c.args.self.now.follows c.args.self.now.ring.first in
    let some : (store_standing c.args.self.now).number ≢ 0 = λ zero. absurd (omega (arith, zero, c.requires.standing)) in
    ring_stands g.V.Volume.seen g.V.Volume.moment g.V.Volume.left_at c.args.self.now c.append.new.volume checkpoint (λ before log. GivesBeforeOrAfter (start_of checkpoint) stream c.args.bytes.now log)
    (StandsBeforeOrAfter checkpoint stream c.args.bytes.now) some is.bears (c.append.ensures.any_moment tells (start_of checkpoint) stream one is.ring)
    (λ from image shows gives. before_or_after checkpoint (store_standing c.args.self.now).slots.items stream c.args.bytes.now image shows gives)

pub returns-in-Err-NoRoom-clause-any_moment : goal.returns-in-Err-NoRoom-clause-any_moment
returns-in-Err-NoRoom-clause-any_moment g c tells checkpoint stream is =
    let one : 1 ≤ (start_of checkpoint).generation = began checkpoint c.args.self.now.standing c.args.self.now.ring.standing is.bears.copy c.args.self.now.follows c.args.self.now.ring.first in
    let some : (store_standing c.args.self.now).number ≢ 0 = λ zero. absurd (omega (arith, zero, c.requires.standing)) in
    ring_stands g.V.Volume.seen g.V.Volume.moment g.V.Volume.left_at c.args.self.now c.append.new.volume checkpoint (λ before log. GivesBeforeOrAfter (start_of checkpoint) stream c.args.bytes.now log)
    (StandsBeforeOrAfter checkpoint stream c.args.bytes.now) some is.bears (c.append.ensures.any_moment tells (start_of checkpoint) stream one is.ring)
    (λ from image shows gives. before_or_after checkpoint (store_standing c.args.self.now).slots.items stream c.args.bytes.now image shows gives)

pub returns-in-Err-VolumeFault-clause-any_moment : goal.returns-in-Err-VolumeFault-clause-any_moment
returns-in-Err-VolumeFault-clause-any_moment g c tells checkpoint stream is =
    let one : 1 ≤ (start_of checkpoint).generation = began checkpoint c.args.self.now.standing c.args.self.now.ring.standing is.bears.copy c.args.self.now.follows c.args.self.now.ring.first in
    let some : (store_standing c.args.self.now).number ≢ 0 = λ zero. absurd (omega (arith, zero, c.requires.standing)) in
    ring_stands g.V.Volume.seen g.V.Volume.moment g.V.Volume.left_at c.args.self.now c.append.new.volume checkpoint (λ before log. GivesBeforeOrAfter (start_of checkpoint) stream c.args.bytes.now log)
    (StandsBeforeOrAfter checkpoint stream c.args.bytes.now) some is.bears (c.append.ensures.any_moment tells (start_of checkpoint) stream one is.ring)
    (λ from image shows gives. before_or_after checkpoint (store_standing c.args.self.now).slots.items stream c.args.bytes.now image shows gives)
