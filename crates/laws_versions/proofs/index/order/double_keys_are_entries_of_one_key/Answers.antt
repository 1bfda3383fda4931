use Rattle.laws_versions.proofs.IndexLemmas.Sharing.{double_keys}
use Rattle.laws_versions.proofs.index.order.double_keys_are_entries_of_one_key.Goals as goal

pub returns : goal.returns
returns c = double_keys
