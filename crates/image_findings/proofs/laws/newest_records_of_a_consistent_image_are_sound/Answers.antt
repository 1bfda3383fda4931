use Rattle.image_findings.proofs.Checks.{no_finding}
use Rattle.image_findings.proofs.Newest.{newest_sound}
use Rattle.image_findings.proofs.Nodes.{each_of_bytes}
use Rattle.image_findings.proofs.Rows.{each_sound_rows}
use Rattle.image_findings.proofs.Tables.{each_sound_table}
use Rattle.image_findings.specs.Findings.{contents_in, live_of, told_in}
use Rattle.image_findings.proofs.laws.newest_records_of_a_consistent_image_are_sound.Goals as goal

pub returns : goal.returns
returns c limit image bytes h =
    let n = no_finding image h in
    newest_sound image.number (live_of image).held (contents_in image) (each_sound_table image.pages (told_in image).greatest (told_in image).tables n.catalog)
    (each_sound_rows image.number (live_of image).held (contents_in image) n.values n.rows) (each_of_bytes image.pages bytes.pages (told_in image).tables)
