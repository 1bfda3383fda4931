use Rattle.laws_versions.proofs.SumLemmas.VeryRecords.{read_as_long}
use Rattle.laws_versions.proofs.sums.stored.an_escrow_column_is_read_as_a_long.Goals as goal

pub returns : goal.returns
returns c = read_as_long
