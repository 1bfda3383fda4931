use Rattle.engine_image.specs.OpenedImages.{contents_of}
use Rattle.engine_image.proofs.opening.examine.Goals as goal

pub open-requires : goal.open-requires
open-requires c = c.requires

pub check-requires : goal.check-requires
check-requires c = (contents_of c.args.image, c.in-Ok.ensures.opened)

pub returns-in-Ok : goal.returns-in-Ok
returns-in-Ok c = c.check.ensures (contents_of c.args.image) c.in-Ok.ensures.opened

pub returns-in-Err : goal.returns-in-Err
returns-in-Err c = c.in-Err.ensures.fault
