use Rattle.laws_versions.specs.StoredRecords.{IsStored}
use Rattle.laws_versions.proofs.RecordLemmas.EachRecord.{each_seen}
use Rattle.laws_versions.proofs.RecordLemmas.StoredSums.{stored_seen_with_sums}
use Rattle.laws_versions.proofs.records.stored.every_record_seen_is_stored.Goals as goal

pub returns-clause-without_sums : goal.returns-clause-without_sums
returns-clause-without_sums c = each_seen IsStored

pub returns-clause-with_sums : goal.returns-clause-with_sums
returns-clause-with_sums c = stored_seen_with_sums
