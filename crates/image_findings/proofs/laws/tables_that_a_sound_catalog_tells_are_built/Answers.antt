use Rattle.image_findings.proofs.Built.{told_are_built}
use Rattle.image_findings.proofs.Told.{is_told}
use Rattle.image_findings.proofs.laws.tables_that_a_sound_catalog_tells_are_built.Goals as goal

pub returns : goal.returns
returns c nodes told is sound = told_are_built told (is_told nodes told is) sound
