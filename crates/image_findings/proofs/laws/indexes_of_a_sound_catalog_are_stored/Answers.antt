use Rattle.image_findings.proofs.StoredRules.{all_stored}
use Rattle.image_findings.proofs.laws.indexes_of_a_sound_catalog_are_stored.Goals as goal

pub returns : goal.returns
returns c frames nodes told is sound = all_stored frames nodes told is sound
