use Rattle.store_core.proofs.Crashes.{new_scanned, scanned_opened}
use Rattle.store_core.proofs.store.Store.with_standing.Goals as goal

pub returns-in-Ok-at-clause-opened : goal.returns-in-Ok-at-clause-opened
returns-in-Ok-at-clause-opened g c tells checkpoint copy shows log =
    scanned_opened g.V.Volume.seen g.V.Volume.moment g.V.Volume.left_at c.args.volume _ checkpoint c.in-Ok.bytes.items c.in-Ok.end c.scan.ensures.any_moment c.scan.ensures.seen copy shows log
    (c.in-Ok.ensures.found tells) c.in-Ok-at.ensures.end

pub returns-in-Ok-at-clause-new : goal.returns-in-Ok-at-clause-new
returns-in-Ok-at-clause-new g c tells copy shows =
    new_scanned g.V.Volume.seen g.V.Volume.moment g.V.Volume.left_at c.args.volume _ c.in-Ok.bytes.items c.in-Ok.end c.scan.ensures.any_moment c.scan.ensures.seen copy shows
    (g.met.V.Volume.seen_may_stay c.args.volume tells) (g.met.V.Volume.seen_may_stay c.scan.new.volume tells) (c.in-Ok.ensures.found tells) c.in-Ok-at.ensures.end c.in-Ok-at.ensures.standing
