use Rattle.laws_versions.proofs.RecordLemmas.EscrowRecords.{numbers_cleaned}
use Rattle.laws_versions.proofs.records.numbers.a_clean_keeps_escrow_numbers.Goals as goal

pub returns : goal.returns
returns c = numbers_cleaned
