use Rattle.laws_versions.proofs.IndexLemmas.Changing.{derived_replaced}
use Rattle.laws_versions.proofs.IndexLemmas.Difference.{derived_by_difference}
use Rattle.laws_versions.proofs.IndexLemmas.KeysRise.{keys_rise}
use Rattle.laws_versions.proofs.index.records.a_changed_record_changes_its_entries.Goals as goal

pub returns-clause-all : goal.returns-clause-all
returns-clause-all c = derived_replaced keys_rise

pub returns-clause-by_difference : goal.returns-clause-by_difference
returns-clause-by_difference c = derived_by_difference keys_rise
