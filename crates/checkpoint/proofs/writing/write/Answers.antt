use Rattle.std.proofs.Common.{ℕ, ◌+◌, List, Option, None, get_or, subst}
use Rattle.page_image.specs.Page.{PageContents}
use Rattle.checkpoint.specs.Contents.{Contents}
use Rattle.checkpoint.specs.Steps.{EachFollows, IsDirty, KeepsOrBrings, SparesClean}
use Rattle.checkpoint.proofs.writing.write.Goals as goal

pub returns-in-Err-clause-each_moment : goal.returns-in-Err-clause-each_moment
returns-in-Err-clause-each_moment g c tells stands =
    let contents : List ℕ → List ℕ → Contents = λ live slots.
    record { number = c.args.standing.now.number + 1; entries = c.args.image.now.number; start = c.args.start; catalog_root = c.args.image.now.catalog_root; slots = slots; live = live } in
    subst (λ (live : List ℕ). EachFollows g.V.Volume.moment g.V.Volume.left_at (KeepsOrBrings (contents live) c.args.image.now.pages.items) c.args.volume.now c.write_parts.new.volume) c.deref-2.ensures.value
    (subst (λ (pages : List (Option PageContents)). EachFollows g.V.Volume.moment g.V.Volume.left_at (KeepsOrBrings (contents c.deref-2.result.now) pages) c.args.volume.now c.write_parts.new.volume) c.deref.ensures.value
    (c.write_parts.ensures.each_moment tells stands))

pub returns-in-Ok-clause-each_moment : goal.returns-in-Ok-clause-each_moment
returns-in-Ok-clause-each_moment g c tells stands =
    let contents : List ℕ → List ℕ → Contents = λ live slots.
    record { number = c.args.standing.now.number + 1; entries = c.args.image.now.number; start = c.args.start; catalog_root = c.args.image.now.catalog_root; slots = slots; live = live } in
    subst (λ (live : List ℕ). EachFollows g.V.Volume.moment g.V.Volume.left_at (KeepsOrBrings (contents live) c.args.image.now.pages.items) c.args.volume.now c.write_parts.new.volume) c.deref-2.ensures.value
    (subst (λ (pages : List (Option PageContents)). EachFollows g.V.Volume.moment g.V.Volume.left_at (KeepsOrBrings (contents c.deref-2.result.now) pages) c.args.volume.now c.write_parts.new.volume) c.deref.ensures.value
    (c.write_parts.ensures.each_moment tells stands))

pub returns-in-Err-clause-clean : goal.returns-in-Err-clause-clean
returns-in-Err-clause-clean g c tells =
    let olds = c.args.standing.now in
    subst (λ (pages : List (Option PageContents)). EachFollows g.V.Volume.moment g.V.Volume.left_at
    (SparesClean (λ p. IsDirty (get_or olds.pages.items p None) (get_or olds.slots.items p 2) (get_or pages p None))) c.args.volume.now c.write_parts.new.volume) c.deref.ensures.value
    (c.write_parts.ensures.clean tells)

pub returns-in-Ok-clause-clean : goal.returns-in-Ok-clause-clean
returns-in-Ok-clause-clean g c tells =
    let olds = c.args.standing.now in
    subst (λ (pages : List (Option PageContents)). EachFollows g.V.Volume.moment g.V.Volume.left_at
    (SparesClean (λ p. IsDirty (get_or olds.pages.items p None) (get_or olds.slots.items p 2) (get_or pages p None))) c.args.volume.now c.write_parts.new.volume) c.deref.ensures.value
    (c.write_parts.ensures.clean tells)
