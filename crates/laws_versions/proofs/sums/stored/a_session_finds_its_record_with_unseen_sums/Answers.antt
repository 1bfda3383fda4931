use Rattle.laws_versions.proofs.SumLemmas.StoredRecord.{found_with_sums}
use Rattle.laws_versions.proofs.sums.stored.a_session_finds_its_record_with_unseen_sums.Goals as goal

pub returns : goal.returns
returns c = found_with_sums
