use Rattle.image_findings.proofs.Befores.{adds_all, plain_indexes_see_no_sum}
use Rattle.image_findings.proofs.Checks.{no_finding}
use Rattle.image_findings.proofs.Known.{known_in, plain_in}
use Rattle.image_findings.specs.Findings.{contents_in, live_of, whole_of}
use Rattle.image_findings.proofs.laws.sums_of_a_consistent_image_are_of_escrow_columns.Goals as goal

pub returns-clause-adds : goal.returns-clause-adds
returns-clause-adds c limit image bytes h =
    let n = no_finding image h in
    adds_all image.number (contents_in image) (whole_of image).sessions (live_of image).held (known_in image bytes n (c.live_parts_are_read_back.ensures.only image.live (whole_of image) bytes.live n.whole))

pub returns-clause-unseen : goal.returns-clause-unseen
returns-clause-unseen c limit image bytes h id =
    let n = no_finding image h in
    plain_indexes_see_no_sum image.number (contents_in image) (whole_of image).sessions (live_of image).held (known_in image bytes n (c.live_parts_are_read_back.ensures.only image.live (whole_of image) bytes.live n.whole)) (plain_in image n) id
