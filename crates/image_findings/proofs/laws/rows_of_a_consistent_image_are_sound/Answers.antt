use Rattle.image_findings.proofs.Checks.{no_finding}
use Rattle.image_findings.proofs.Rows.{each_sound_rows}
use Rattle.image_findings.specs.Findings.{contents_in, live_of}
use Rattle.image_findings.proofs.laws.rows_of_a_consistent_image_are_sound.Goals as goal

pub returns : goal.returns
returns c image h =
    let n = no_finding image h in
    each_sound_rows image.number (live_of image).held (contents_in image) n.values n.rows
