use Rattle.laws_versions.proofs.RecordLemmas.EscrowRecords.{numbers_begin}
use Rattle.laws_versions.proofs.records.numbers.escrow_numbers_begin_with_those_of_tables.Goals as goal

pub returns : goal.returns
returns c = numbers_begin
