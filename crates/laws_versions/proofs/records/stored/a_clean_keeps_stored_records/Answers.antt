use Rattle.laws_versions.specs.StoredRecords.{IsStored}
use Rattle.laws_versions.proofs.RecordLemmas.EachRecord.{each_cleaned}
use Rattle.laws_versions.proofs.RecordLemmas.StoredSums.{stored_cleaned_with_sums}
use Rattle.laws_versions.proofs.records.stored.a_clean_keeps_stored_records.Goals as goal

pub returns-clause-without_sums : goal.returns-clause-without_sums
returns-clause-without_sums c = each_cleaned IsStored

pub returns-clause-with_sums : goal.returns-clause-with_sums
returns-clause-with_sums c = stored_cleaned_with_sums
