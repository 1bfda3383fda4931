use Rattle.image_findings.proofs.Checks.{no_finding}
use Rattle.image_findings.proofs.Showable.{showable}
use Rattle.image_findings.specs.Findings.{whole_of}
use Rattle.image_findings.proofs.laws.a_consistent_image_is_showable.Goals as goal

pub returns : goal.returns
returns c limit image bytes h =
    let n = no_finding image h in
    showable limit image bytes n (c.live_parts_are_read_back.ensures.only image.live (whole_of image) bytes.live n.whole)
