use Rattle.std.proofs.Common.{◌≡◌, [], None, get_or, length, refl, arith}
use Rattle.std.proofs.lemmas.Result.{on_ok_weaker}
use Rattle.checkpoint.specs.Contents.{IsLawful}
use Rattle.checkpoint.specs.Opening.{HoldsPages}
use Rattle.checkpoint.specs.Shape.{contents_with}
use Rattle.checkpoint.specs.Steps.{IsDirty}
use Rattle.checkpoint.proofs.Clean.{file_beside}
use Rattle.checkpoint.proofs.Files.{pages_keep, file_brings, new_alone, all_small}
use Rattle.checkpoint.proofs.Stands.{says_all}
use Rattle.checkpoint.proofs.writing.write_parts.Goals as goal

pub returns-in_err-write_pages-clause-each_moment : goal.returns-in_err-write_pages-clause-each_moment
returns-in_err-write_pages-clause-each_moment g c tells stands =
    pages_keep g.V.Volume.moment g.V.Volume.left_at c.args.volume.now c.write_pages.new.volume c.write_pages.new.volume c.args.standing.now (λ s. contents_with c.args.head s c.args.live.now) c.args.head.number c.write_pages.new.slots
    c.args.pages.now [] c.requires.next stands c.write_pages.ensures.each

pub returns-clause-each_moment : goal.returns-clause-each_moment
returns-clause-each_moment g c tells stands =
    let slots = c.write_pages.new.slots in
    let same : length slots ≡ length c.args.pages.now = omega (arith, c.write_pages.auto.slots, c.requires.slots) in
    let fits = c.write_file.ensures.fits in
    let lawful : IsLawful (contents_with c.args.head slots c.args.live.now) = record {
      number = omega (arith, c.requires.next);
      number_fits = fits.0;
      entries = fits.1;
      generation = c.requires.generation;
      generation_fits = fits.3;
      offset = c.requires.offset;
      position = fits.4;
      catalog_root = fits.2;
      pages = omega (arith, same, c.requires.few);
      slots = all_small c.args.standing.now.pages.items c.args.standing.now.slots.items c.args.pages.now slots same c.in_ok-write_pages.ensures.slots;
      live = omega (arith, c.requires.fits);
    } in
    let seen = says_all c.args.standing.now (g.V.Volume.seen c.args.volume.now) (stands (g.V.Volume.seen c.args.volume.now) (g.met.V.Volume.seen_may_stay c.args.volume.now tells)) in
    let holds : HoldsPages (g.V.Volume.seen c.write_pages.new.volume).database slots c.args.pages.now = record { count = same; each = c.in_ok-write_pages.ensures.held tells seen } in
    file_brings g.V.Volume.moment g.V.Volume.left_at c.args.volume.now c.write_pages.new.volume c.write_file.new.volume c.args.standing.now (λ s. contents_with c.args.head s c.args.live.now) c.args.head.number slots
    c.args.pages.now (g.V.Volume.seen c.write_pages.new.volume).database c.requires.next stands c.write_pages.ensures.each lawful refl c.in_ok-write_pages.ensures.durable holds (c.write_file.ensures.each tells)

pub returns-clause-written : goal.returns-clause-written
returns-clause-written g c =
    on_ok_weaker c.write_file.result
    (λ says tells stands.
    let slots = c.write_pages.new.slots in
    let same : length slots ≡ length c.args.pages.now = omega (arith, c.write_pages.auto.slots, c.requires.slots) in
    let fits = c.write_file.ensures.fits in
    let lawful : IsLawful (contents_with c.args.head slots c.args.live.now) = record {
      number = omega (arith, c.requires.next);
      number_fits = fits.0;
      entries = fits.1;
      generation = c.requires.generation;
      generation_fits = fits.3;
      offset = c.requires.offset;
      position = fits.4;
      catalog_root = fits.2;
      pages = omega (arith, same, c.requires.few);
      slots = all_small c.args.standing.now.pages.items c.args.standing.now.slots.items c.args.pages.now slots same c.in_ok-write_pages.ensures.slots;
      live = omega (arith, c.requires.fits);
    } in
    let seen = says_all c.args.standing.now (g.V.Volume.seen c.args.volume.now) (stands (g.V.Volume.seen c.args.volume.now) (g.met.V.Volume.seen_may_stay c.args.volume.now tells)) in
    let holds : HoldsPages (g.V.Volume.seen c.write_pages.new.volume).database slots c.args.pages.now = record { count = same; each = c.in_ok-write_pages.ensures.held tells seen } in
    new_alone g.V.Volume.moment g.V.Volume.left_at c.args.volume.now c.write_pages.new.volume c.write_file.new.volume c.args.standing.now (λ s. contents_with c.args.head s c.args.live.now) c.args.head.number slots
    c.args.pages.now (g.V.Volume.seen c.write_pages.new.volume).database c.requires.next stands c.write_pages.ensures.each lawful refl c.in_ok-write_pages.ensures.durable holds (c.write_file.ensures.each tells) (says tells))
    c.write_file.ensures.written

pub returns-clause-clean : goal.returns-clause-clean
returns-clause-clean g c tells =
    let olds = c.args.standing.now in
    file_beside g.V.Volume.moment g.V.Volume.left_at c.args.volume.now c.write_pages.new.volume c.write_file.new.volume
    (λ p. IsDirty (get_or olds.pages.items p None) (get_or olds.slots.items p 2) (get_or c.args.pages.now p None))
    c.args.head.number (contents_with c.args.head c.write_pages.new.slots c.args.live.now) c.write_pages.ensures.clean (c.write_file.ensures.each tells)
