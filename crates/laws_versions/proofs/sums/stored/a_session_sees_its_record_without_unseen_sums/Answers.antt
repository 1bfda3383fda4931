use Rattle.laws_versions.proofs.SumLemmas.StoredRecord.{found_there}
use Rattle.laws_versions.proofs.SumLemmas.StoredSums.{columns_seen, sums_seen}
use Rattle.laws_versions.proofs.sums.stored.a_session_sees_its_record_without_unseen_sums.Goals as goal

pub returns-clause-there : goal.returns-clause-there
returns-clause-there c = found_there

pub returns-clause-columns : goal.returns-clause-columns
returns-clause-columns c = columns_seen

pub returns-clause-sums : goal.returns-clause-sums
returns-clause-sums c = sums_seen
