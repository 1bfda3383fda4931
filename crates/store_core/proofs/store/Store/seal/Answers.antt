use Rattle.std.proofs.Common.{◌≤◌, refl, ◌∙◌, ap}
use Rattle.jet_volume.specs.declared.files.LogStart.{LogStart}
use Rattle.log_ring.specs.Blocks.{Scans}
use Rattle.store_core.specs.Stands.{start_of, Stands}
use Rattle.store_core.specs.Store.{store_volume, store_end, store_standing}
use Rattle.store_core.proofs.Crashes.{began, unmoved, opened_stands, new_writable, ring_changed, ring_stands}
use Rattle.store_core.proofs.store.Store.seal.Goals as goal

pub returns-in-Some-clause-any_moment : goal.returns-in-Some-clause-any_moment
returns-in-Some-clause-any_moment g c tells checkpoint stream is =
    unmoved g.V.Volume.seen g.V.Volume.moment g.V.Volume.left_at (store_volume c.args.self.now) (Stands checkpoint stream)
    (opened_stands g.V.Volume.seen g.V.Volume.moment g.V.Volume.left_at c.args.self.now checkpoint stream is)

pub returns-then-self-eq0-clause-sealed : goal.returns-then-self-eq0-clause-sealed
returns-then-self-eq0-clause-sealed g c tells checkpoint stream is =
    new_writable g.V.Volume.seen g.V.Volume.moment g.V.Volume.left_at c.args.self.now checkpoint stream c.if-self-eq0.true c.args.self.now.follows
    (g.met.V.Volume.seen_may_stay c.args.self.now.volume tells) is

pub returns-then-self-eq0-clause-any_moment : goal.returns-then-self-eq0-clause-any_moment
returns-then-self-eq0-clause-any_moment g c tells checkpoint stream is =
    unmoved g.V.Volume.seen g.V.Volume.moment g.V.Volume.left_at (store_volume c.args.self.now) (Stands checkpoint stream)
    (opened_stands g.V.Volume.seen g.V.Volume.moment g.V.Volume.left_at c.args.self.now checkpoint stream is)

pub returns-in-Ok-clause-sealed : goal.returns-in-Ok-clause-sealed
returns-in-Ok-clause-sealed g c tells checkpoint stream is =
    let one : 1 ≤ (start_of checkpoint).generation = began checkpoint c.args.self.now.standing c.args.self.now.ring.standing is.bears.copy c.args.self.now.follows c.args.self.now.ring.first in
    ring_changed g.V.Volume.seen g.V.Volume.moment g.V.Volume.left_at c.args.self.now _ checkpoint stream (λ before log. Scans log (start_of checkpoint) stream (store_end c.args.self.now)) refl c.if-self-eq0.false is.bears
    (c.seal.ensures.any_moment tells is.log (start_of checkpoint) stream one is.is is.scans)
    (c.in-Ok.ensures.ready tells is.log (start_of checkpoint) stream one (c.args.self.now.follows ∙ ap (λ (s : LogStart). s.generation) is.bears.copy.start) is.is is.scans)

pub returns-in-Ok-clause-any_moment : goal.returns-in-Ok-clause-any_moment
returns-in-Ok-clause-any_moment g c tells checkpoint stream is =
    let one : 1 ≤ (start_of checkpoint).generation = began checkpoint c.args.self.now.standing c.args.self.now.ring.standing is.bears.copy c.args.self.now.follows c.args.self.now.ring.first in
    ring_stands g.V.Volume.seen g.V.Volume.moment g.V.Volume.left_at c.args.self.now c.seal.new.volume checkpoint (λ before log. Scans log (start_of checkpoint) stream (store_end c.args.self.now)) (Stands checkpoint stream)
    c.if-self-eq0.false is.bears (c.seal.ensures.any_moment tells is.log (start_of checkpoint) stream one is.is is.scans)
    (λ from image shows scans. record { slots = (store_standing c.args.self.now).slots.items; shows = shows; gives = (store_end c.args.self.now, scans) })

pub returns-in-Err-clause-any_moment : goal.returns-in-Err-clause-any_moment
returns-in-Err-clause-any_moment g c tells checkpoint stream is =
    let one : 1 ≤ (start_of checkpoint).generation = began checkpoint c.args.self.now.standing c.args.self.now.ring.standing is.bears.copy c.args.self.now.follows c.args.self.now.ring.first in
    ring_stands g.V.Volume.seen g.V.Volume.moment g.V.Volume.left_at c.args.self.now c.seal.new.volume checkpoint (λ before log. Scans log (start_of checkpoint) stream (store_end c.args.self.now)) (Stands checkpoint stream)
    c.if-self-eq0.false is.bears (c.seal.ensures.any_moment tells is.log (start_of checkpoint) stream one is.is is.scans)
    (λ from image shows scans. record { slots = (store_standing c.args.self.now).slots.items; shows = shows; gives = (store_end c.args.self.now, scans) })
