use Rattle.laws_versions.proofs.RecordLemmas.EscrowRecords.{numbers_seen}
use Rattle.laws_versions.proofs.records.numbers.every_record_seen_holds_numbers.Goals as goal

pub returns : goal.returns
returns c = numbers_seen
