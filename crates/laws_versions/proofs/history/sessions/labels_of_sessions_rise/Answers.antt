use Rattle.laws_versions.proofs.HistoryLemmas.Labels.{labels_rise}
use Rattle.laws_versions.proofs.history.sessions.labels_of_sessions_rise.Goals as goal

pub returns : goal.returns
returns c = labels_rise
