use Rattle.laws_versions.proofs.RecordLemmas.Storing.{stored_kept}
use Rattle.laws_versions.proofs.RecordLemmas.StoredSums.{stored_kept_with_sums}
use Rattle.laws_versions.proofs.records.stored.lawful_entries_keep_stored_records.Goals as goal

pub returns-clause-without_sums : goal.returns-clause-without_sums
returns-clause-without_sums c = stored_kept

pub returns-clause-with_sums : goal.returns-clause-with_sums
returns-clause-with_sums c = stored_kept_with_sums
