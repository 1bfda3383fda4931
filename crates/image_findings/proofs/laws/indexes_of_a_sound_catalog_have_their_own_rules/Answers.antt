use Rattle.image_findings.proofs.NumberedRules.{all_own_rules}
use Rattle.image_findings.proofs.laws.indexes_of_a_sound_catalog_have_their_own_rules.Goals as goal

pub returns : goal.returns
returns c frames nodes told is sound = all_own_rules frames nodes told is sound
