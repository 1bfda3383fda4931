use Rattle.std.proofs.Common.{None, get_or}
use Rattle.checkpoint.specs.Steps.{IsDirty, SparesClean}
use Rattle.checkpoint.proofs.Follows.{follows_quiet}
use Rattle.checkpoint.proofs.pages.write_pages.Goals as goal

pub returns-in-Ok-clause-clean : goal.returns-in-Ok-clause-clean
returns-in-Ok-clause-clean g c =
    let olds = c.args.standing.now in
    follows_quiet g.V.Volume.moment g.V.Volume.left_at c.args.volume.now c.write_dirty.new.volume c.sync.new.self
    (SparesClean (λ p. IsDirty (get_or olds.pages.items p None) (get_or olds.slots.items p 2) (get_or c.args.pages.now p None)))
    c.write_dirty.ensures.clean c.sync.ensures.time c.sync.ensures.crash
