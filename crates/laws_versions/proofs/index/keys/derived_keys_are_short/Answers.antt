use Rattle.laws_versions.proofs.IndexLemmas.Apart.{short}
use Rattle.laws_versions.proofs.index.keys.derived_keys_are_short.Goals as goal

pub returns : goal.returns
returns c = short
