use Rattle.laws_versions.proofs.KeyLemmas.EscrowSums.{sums_begin}
use Rattle.laws_versions.proofs.keys.sums.indexes_begin_apart_from_sums.Goals as goal

pub returns : goal.returns
returns c = sums_begin
