use Rattle.laws_versions.proofs.IndexLemmas.Removing.{derived_without}
use Rattle.laws_versions.proofs.IndexLemmas.OneByOne.{derived_one_by_one}
use Rattle.laws_versions.proofs.index.records.a_record_that_goes_takes_its_entries.Goals as goal

pub returns-clause-at_once : goal.returns-clause-at_once
returns-clause-at_once c = derived_without

pub returns-clause-one_by_one : goal.returns-clause-one_by_one
returns-clause-one_by_one c = derived_one_by_one
