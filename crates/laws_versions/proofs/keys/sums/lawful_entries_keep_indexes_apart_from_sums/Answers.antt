use Rattle.laws_versions.proofs.KeyLemmas.EscrowSums.{sums_kept}
use Rattle.laws_versions.proofs.keys.sums.lawful_entries_keep_indexes_apart_from_sums.Goals as goal

pub returns : goal.returns
returns c = sums_kept
