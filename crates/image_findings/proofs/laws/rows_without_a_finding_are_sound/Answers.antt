use Rattle.image_findings.proofs.Rows.{sound_rows}
use Rattle.image_findings.proofs.laws.rows_without_a_finding_are_sound.Goals as goal

pub returns : goal.returns
returns c number held t values rows = sound_rows number held t values rows
