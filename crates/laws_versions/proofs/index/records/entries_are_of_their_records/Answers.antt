use Rattle.laws_versions.proofs.IndexLemmas.Standing.{stands}
use Rattle.laws_versions.proofs.index.records.entries_are_of_their_records.Goals as goal

pub returns : goal.returns
returns c = stands
