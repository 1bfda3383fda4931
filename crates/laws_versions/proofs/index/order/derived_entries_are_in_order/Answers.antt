use Rattle.laws_versions.proofs.IndexLemmas.Adding.{derived_in_order}
use Rattle.laws_versions.proofs.IndexLemmas.KeysRise.{keys_rise}
use Rattle.laws_versions.proofs.index.order.derived_entries_are_in_order.Goals as goal

pub returns : goal.returns
returns c = derived_in_order keys_rise
