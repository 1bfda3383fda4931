use Rattle.laws_versions.proofs.RecordLemmas.EscrowRecords.{numbers_kept}
use Rattle.laws_versions.proofs.records.numbers.lawful_entries_keep_escrow_numbers.Goals as goal

pub returns : goal.returns
returns c = numbers_kept
