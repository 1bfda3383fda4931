use Rattle.laws_versions.proofs.IndexLemmas.Apart.{apart}
use Rattle.laws_versions.proofs.index.keys.derived_keys_are_apart.Goals as goal

pub returns : goal.returns
returns c = apart
