use Rattle.image_findings.proofs.Befores.{befores_sound, sums_keep}
use Rattle.image_findings.proofs.Checks.{no_finding}
use Rattle.image_findings.proofs.Known.{known_in, plain_in}
use Rattle.image_findings.specs.Findings.{contents_in, live_of, whole_of}
use Rattle.image_findings.proofs.laws.records_before_changes_of_a_consistent_image_are_sound.Goals as goal

pub returns-clause-befores : goal.returns-clause-befores
returns-clause-befores c limit image bytes h =
    let n = no_finding image h in
    befores_sound image.number (contents_in image) (whole_of image).sessions (live_of image).held (known_in image bytes n (c.live_parts_are_read_back.ensures.only image.live (whole_of image) bytes.live n.whole))

pub returns-clause-keeps : goal.returns-clause-keeps
returns-clause-keeps c limit image bytes h =
    let n = no_finding image h in
    sums_keep image.number (contents_in image) (whole_of image).sessions (plain_in image n) (live_of image).held (known_in image bytes n (c.live_parts_are_read_back.ensures.only image.live (whole_of image) bytes.live n.whole))
