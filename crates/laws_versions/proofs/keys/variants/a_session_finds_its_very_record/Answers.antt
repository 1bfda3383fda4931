use Rattle.laws_versions.proofs.KeyLemmas.FoundKeys.{found_without_sums}
use Rattle.laws_versions.proofs.keys.variants.a_session_finds_its_very_record.Goals as goal

pub returns : goal.returns
returns c = found_without_sums
