use Rattle.laws_versions.proofs.KeyLemmas.VariantKeys.{keys_after_undo}
use Rattle.laws_versions.proofs.keys.variants.keys_of_variants_after_an_undo.Goals as goal

pub returns : goal.returns
returns c = keys_after_undo
