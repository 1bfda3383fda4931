use Rattle.laws_versions.proofs.HistoryLemmas.LawfulEntries.{keeps_lawful, keeps_some}
use Rattle.laws_versions.proofs.history.steps.lawful_entries_keep_the_history.Goals as goal

pub returns-clause-kept : goal.returns-clause-kept
returns-clause-kept c = keeps_lawful

pub returns-clause-some : goal.returns-clause-some
returns-clause-some c = keeps_some
