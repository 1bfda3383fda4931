use Rattle.laws_versions.proofs.KeyLemmas.OneEntry.{one_entry}
use Rattle.laws_versions.proofs.keys.primary.a_primary_index_has_one_entry.Goals as goal

pub returns : goal.returns
returns c = one_entry
