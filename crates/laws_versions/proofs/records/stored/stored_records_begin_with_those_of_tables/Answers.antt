use Rattle.laws_versions.specs.StoredRecords.{IsStored}
use Rattle.laws_versions.proofs.RecordLemmas.EachRecord.{each_begun}
use Rattle.laws_versions.proofs.records.stored.stored_records_begin_with_those_of_tables.Goals as goal

pub returns : goal.returns
returns c = each_begun IsStored
