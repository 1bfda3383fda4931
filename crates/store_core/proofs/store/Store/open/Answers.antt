use Rattle.std.proofs.Common.{◌≡◌, None, Option, sym, subst}
use Rattle.jet_volume.specs.Image.{Image as Files}
use Rattle.jet_volume.specs.Crash.{CrashLeaves}
use Rattle.log_ring.specs.Blocks.{Scans}
use Rattle.checkpoint.specs.declared.image.Standing.{Standing}
use Rattle.store_core.specs.Stands.{Checkpoint, ShowsIn, Stands}
use Rattle.store_core.specs.Store.{store_volume, store_end, checkpoint_found, IsCopyOf, IsOpened}
use Rattle.store_core.proofs.Opens.{looks_on, found_copy, found_stands, found_same, found_stream, surely_found, settled_shows, settled_log}
use Rattle.store_core.proofs.store.Store.open.Goals as goal

pub returns-in-Ok-with_standing-clause-stands : goal.returns-in-Ok-with_standing-clause-stands
returns-in-Ok-with_standing-clause-stands g c tells =
    let files = g.V.Volume.seen c.args.volume in
    let found = c.in-Ok.found in
    let standing = c.in-Ok.standing in
    let bytes = c.in-Ok-with_standing.bytes.items in
    let end = store_end c.in-Ok-with_standing.store in
    let scans : Scans files.log standing.start bytes end = subst (λ (i : Files). Scans i.log standing.start bytes end) c.read.ensures.seen (c.in-Ok-with_standing.ensures.scans tells) in
    subst (λ (s : Standing). Stands (checkpoint_found found s) bytes files) (sym c.in-Ok-with_standing.ensures.standing)
    (found_stands files found standing bytes end c.in-Ok.ensures.form (c.in-Ok.ensures.answer tells) scans)

pub returns-in-Ok-with_standing-clause-opened : goal.returns-in-Ok-with_standing-clause-opened
returns-in-Ok-with_standing-clause-opened g c tells settled =
    let seen = g.V.Volume.seen in
    let moment = g.V.Volume.moment in
    let left_at = g.V.Volume.left_at in
    let found = c.in-Ok.found in
    let standing = c.in-Ok.standing in
    subst (λ (s : Standing). IsOpened seen moment left_at c.in-Ok-with_standing.store (checkpoint_found found s) c.in-Ok-with_standing.bytes.items) (sym c.in-Ok-with_standing.ensures.standing)
    (c.in-Ok-with_standing.ensures.opened tells (checkpoint_found found standing) (found_copy found standing c.in-Ok.ensures.form)
    (settled_shows seen moment left_at c.args.volume c.read.new.volume found standing c.in-Ok.ensures.form (c.in-Ok.ensures.answer tells) settled c.read.ensures.quiet)
    (settled_log seen moment left_at c.args.volume c.read.new.volume settled c.read.ensures.quiet c.read.ensures.seen))

pub returns-in-Ok-with_standing-clause-new : goal.returns-in-Ok-with_standing-clause-new
returns-in-Ok-with_standing-clause-new g c tells settled none =
    let seen = g.V.Volume.seen in
    let moment = g.V.Volume.moment in
    let left_at = g.V.Volume.left_at in
    let found = c.in-Ok.found in
    let standing = c.in-Ok.standing in
    let is_new : checkpoint_found found standing ≡ None = subst (λ (s : Standing). checkpoint_found found s ≡ None) c.in-Ok-with_standing.ensures.standing none in
    c.in-Ok-with_standing.ensures.new tells (subst (λ (k : Option Checkpoint). IsCopyOf k standing) is_new (found_copy found standing c.in-Ok.ensures.form))
    (subst (λ (k : Option Checkpoint). CrashLeaves moment left_at c.read.new.volume (ShowsIn standing.slots.items k)) is_new
    (settled_shows seen moment left_at c.args.volume c.read.new.volume found standing c.in-Ok.ensures.form (c.in-Ok.ensures.answer tells) settled c.read.ensures.quiet))

pub returns-in-Ok-with_standing-clause-finds : goal.returns-in-Ok-with_standing-clause-finds
returns-in-Ok-with_standing-clause-finds g c tells checkpoint stream stands =
    let files = g.V.Volume.seen c.args.volume in
    let found = c.in-Ok.found in
    let standing = c.in-Ok.standing in
    let bytes = c.in-Ok-with_standing.bytes.items in
    let end = store_end c.in-Ok-with_standing.store in
    let scans : Scans files.log standing.start bytes end = subst (λ (i : Files). Scans i.log standing.start bytes end) c.read.ensures.seen (c.in-Ok-with_standing.ensures.scans tells) in
    let same : checkpoint_found found standing ≡ checkpoint = found_same c.what_stands_is_read.ensures.found files found standing checkpoint stream (c.in-Ok.ensures.answer tells) stands in (
      subst (λ (s : Standing). checkpoint_found found s ≡ checkpoint) (sym c.in-Ok-with_standing.ensures.standing) same,
      found_stream c.scans_once.ensures.stream files found standing bytes end checkpoint stream c.in-Ok.ensures.form scans stands same,
    )

pub returns-in-Ok-with_standing-clause-any_moment : goal.returns-in-Ok-with_standing-clause-any_moment
returns-in-Ok-with_standing-clause-any_moment g c =
    looks_on g.V.Volume.moment g.V.Volume.left_at c.args.volume c.read.new.volume (store_volume c.in-Ok-with_standing.store) c.read.ensures.quiet c.in-Ok-with_standing.ensures.any_moment

pub returns-in-Err-with_standing-clause-any_moment_back : goal.returns-in-Err-with_standing-clause-any_moment_back
returns-in-Err-with_standing-clause-any_moment_back g c =
    looks_on g.V.Volume.moment g.V.Volume.left_at c.args.volume c.read.new.volume c.in-Err-with_standing.fault.volume c.read.ensures.quiet c.in-Err-with_standing.ensures.any_moment_back

pub returns-in-Err-clause-sure : goal.returns-in-Err-clause-sure
returns-in-Err-clause-sure g c tells checkpoint stream stands may =
    surely_found c.what_stands_is_read.ensures.not_refused (g.V.Volume.seen c.args.volume) checkpoint stream c.in-Err.cause stands may (c.in-Err.ensures.answer tells)
