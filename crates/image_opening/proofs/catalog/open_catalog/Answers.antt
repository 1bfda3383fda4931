use Rattle.image_opening.proofs.OpenedParts.{marked_alone}
use Rattle.image_opening.proofs.Results.{for_ok}
use Rattle.image_opening.proofs.catalog.open_catalog.Goals as goal

pub returns-in-Ok-clause-marked : goal.returns-in-Ok-clause-marked
returns-in-Ok-clause-marked c =
    for_ok c.opened_catalog.result (λ made same. marked_alone c.args.space.now c.args.root made.tree c.in-Ok.tree c.args.marks.now c.open_told.new.marks c.in-Ok.ensures.tree same c.in-Ok.ensures.own) c.opened_catalog.ensures.tree
