use Rattle.laws_versions.proofs.IndexLemmas.Adding.{derived_put}
use Rattle.laws_versions.proofs.IndexLemmas.KeysRise.{keys_rise}
use Rattle.laws_versions.proofs.index.records.a_new_record_adds_its_entries.Goals as goal

pub returns : goal.returns
returns c = derived_put keys_rise
