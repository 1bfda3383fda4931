use Rattle.laws_versions.proofs.HistoryLemmas.Viewing.{found_in}
use Rattle.laws_versions.proofs.history.views.a_session_finds_its_record.Goals as goal

pub returns : goal.returns
returns c = found_in
