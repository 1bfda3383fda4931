use Rattle.image_findings.proofs.Checks.{no_finding}
use Rattle.image_findings.proofs.Showable.{unique_of}
use Rattle.image_findings.specs.Findings.{whole_of}
use Rattle.image_findings.proofs.laws.keys_of_a_consistent_image_are_unique.Goals as goal

pub returns : goal.returns
returns c limit image bytes h =
    let n = no_finding image h in
    unique_of limit image bytes n (c.live_parts_are_read_back.ensures.only image.live (whole_of image) bytes.live n.whole)
