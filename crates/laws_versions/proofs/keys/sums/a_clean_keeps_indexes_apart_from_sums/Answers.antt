use Rattle.laws_versions.proofs.KeyLemmas.EscrowSums.{sums_cleaned}
use Rattle.laws_versions.proofs.keys.sums.a_clean_keeps_indexes_apart_from_sums.Goals as goal

pub returns : goal.returns
returns c = sums_cleaned
