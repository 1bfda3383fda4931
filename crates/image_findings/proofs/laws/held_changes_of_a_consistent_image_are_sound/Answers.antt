use Rattle.image_findings.proofs.Checks.{no_finding}
use Rattle.image_findings.proofs.StandingChanges.{sound_changes}
use Rattle.image_findings.specs.Findings.{whole_of}
use Rattle.image_findings.proofs.laws.held_changes_of_a_consistent_image_are_sound.Goals as goal

pub returns : goal.returns
returns c image bytes h =
    let n = no_finding image h in
    sound_changes image bytes n (c.live_parts_are_read_back.ensures.only image.live (whole_of image) bytes.live n.whole)
