use Rattle.laws_versions.proofs.IndexLemmas.OneByOne.{taken_out_again}
use Rattle.laws_versions.proofs.index.records.entries_that_were_put_can_be_taken_out.Goals as goal

pub returns : goal.returns
returns c = taken_out_again
