use Rattle.laws_versions.proofs.HistoryLemmas.Unhindered.{finds_newest}
use Rattle.laws_versions.proofs.history.conflicts.an_unhindered_change_finds_its_record_newest.Goals as goal

pub returns : goal.returns
returns c = finds_newest
