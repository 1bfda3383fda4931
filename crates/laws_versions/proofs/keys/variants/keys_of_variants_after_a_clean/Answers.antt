use Rattle.laws_versions.proofs.KeyLemmas.VariantKeys.{keys_after_clean}
use Rattle.laws_versions.proofs.keys.variants.keys_of_variants_after_a_clean.Goals as goal

pub returns : goal.returns
returns c = keys_after_clean
