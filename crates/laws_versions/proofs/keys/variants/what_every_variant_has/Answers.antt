use Rattle.std.specs.Prelude.{◌≡◌, true}
use Rattle.laws_versions.proofs.KeyLemmas.VariantKeys.{each_variant}
use Rattle.laws_versions.proofs.keys.variants.what_every_variant_has.Goals as goal

pub returns : goal.returns
returns c holds = each_variant (λ values. holds values ≡ true)
