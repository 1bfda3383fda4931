use Rattle.laws_versions.proofs.KeyLemmas.UniqueLaws.{keys_cleaned}
use Rattle.laws_versions.proofs.keys.unique.a_clean_keeps_unique_keys.Goals as goal

pub returns : goal.returns
returns c = keys_cleaned
