use Rattle.laws_versions.proofs.HistoryLemmas.LawfulEntries.{history_alone}
use Rattle.laws_versions.proofs.history.steps.a_history_begins_without_sessions.Goals as goal

pub returns : goal.returns
returns c = history_alone
