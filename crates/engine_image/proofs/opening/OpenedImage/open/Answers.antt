use Rattle.std.proofs.Common.{refl, sym, subst, List, ℕ}
use Rattle.live_part.specs.LiveReading.{whole_in}
use Rattle.engine_image.specs.OpenedImages.{IsReadLive, contents_of}
use Rattle.engine_image.proofs.opening.OpenedImage.open.Goals as goal

pub holding-requires : goal.holding-requires
holding-requires c = c.requires

pub returns-in-Err-clause-fault : goal.returns-in-Err-clause-fault
returns-in-Err-clause-fault c = tt

pub returns-in-Err-holding-clause-fault : goal.returns-in-Err-holding-clause-fault
returns-in-Err-holding-clause-fault c = tt

pub returns-in-Ok-open_forest-clause-opened : goal.returns-in-Ok-open_forest-clause-opened
returns-in-Ok-open_forest-clause-opened c = record {
  number = refl;
  pages = c.in-Ok-holding.ensures;
  forest = c.in-Ok-open_forest.ensures.opened (contents_of c.args.image) (sym c.in-Ok-holding.ensures) refl;
  live = subst (λ (l : List ℕ). IsReadLive (whole_in l) c.in-Ok.live) c.as_slice.ensures.value c.in-Ok.ensures;
}

pub returns-clause-fault : goal.returns-clause-fault
returns-clause-fault c = c.in-Err-open_forest.ensures.fault (contents_of c.args.image) (sym c.in-Ok-holding.ensures) refl
