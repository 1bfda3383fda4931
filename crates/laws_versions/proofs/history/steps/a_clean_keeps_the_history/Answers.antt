use Rattle.laws_versions.proofs.HistoryLemmas.EndEntries.{history_cleaned}
use Rattle.laws_versions.proofs.history.steps.a_clean_keeps_the_history.Goals as goal

pub returns : goal.returns
returns c = history_cleaned
