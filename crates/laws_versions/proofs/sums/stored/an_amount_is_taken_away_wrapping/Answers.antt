use Rattle.laws_versions.proofs.SumLemmas.StoredSums.{is_wrapping}
use Rattle.laws_versions.proofs.sums.stored.an_amount_is_taken_away_wrapping.Goals as goal

pub returns : goal.returns
returns c = is_wrapping
