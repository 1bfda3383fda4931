use Rattle.image_findings.proofs.Checks.{no_finding}
use Rattle.image_findings.proofs.SoundCatalogs.{sound_catalog}
use Rattle.image_findings.proofs.SoundSessions.{sound_sessions}
use Rattle.image_findings.specs.Findings.{whole_of}
use Rattle.image_findings.proofs.laws.the_state_of_a_consistent_image_is_sound.Goals as goal

pub returns : goal.returns
returns c image bytes h =
    let n = no_finding image h in
    let holds = c.an_engine_of_a_consistent_image_holds_its_state.ensures 0 image bytes h in
    record { sessions = sound_sessions image holds n (c.live_parts_are_read_back.ensures.only image.live (whole_of image) bytes.live n.whole).1; catalog = sound_catalog image holds n }
