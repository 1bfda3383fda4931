use Rattle.std.proofs.Common.{sym}
use Rattle.image_findings.specs.Findings.{finding}
use Rattle.engine_image.specs.Checks.{checks_finding}
use Rattle.engine_image.proofs.FirstOf.{tells_same}
use Rattle.engine_image.proofs.Forests.{rest_is}
use Rattle.engine_image.proofs.opening.OpenedImage.check.Goals as goal

pub check-requires : goal.check-requires
check-requires c = (c.requires.0, c.parts.ensures c.requires.0 c.requires.1)

pub returns : goal.returns
returns c image is =
    tells_same (checks_finding image) (finding image) c.check.result (sym (rest_is c.what_trees_open_next_is_found_next.ensures.rest image c.args.self.now is)) (c.check.ensures image (c.parts.ensures image is))
