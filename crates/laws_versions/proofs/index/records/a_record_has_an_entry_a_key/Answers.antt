use Rattle.laws_versions.proofs.IndexLemmas.OneRecord.{of_one, least_of_one, of_none}
use Rattle.laws_versions.proofs.IndexLemmas.KeysRise.{keys_rise}
use Rattle.laws_versions.proofs.index.records.a_record_has_an_entry_a_key.Goals as goal

pub returns-clause-all : goal.returns-clause-all
returns-clause-all c = of_one keys_rise

pub returns-clause-least : goal.returns-clause-least
returns-clause-least c = least_of_one keys_rise

pub returns-clause-no_record : goal.returns-clause-no_record
returns-clause-no_record c = of_none
