use Rattle.laws_versions.proofs.IndexLemmas.Changing.{derived_row_by_row}
use Rattle.laws_versions.proofs.IndexLemmas.KeysRise.{keys_rise}
use Rattle.laws_versions.proofs.index.records.an_index_is_derived_record_by_record.Goals as goal

pub returns : goal.returns
returns c = derived_row_by_row keys_rise
