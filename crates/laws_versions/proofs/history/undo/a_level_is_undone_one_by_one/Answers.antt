use Rattle.laws_versions.proofs.HistoryLemmas.Keeping.{keeps_undone_last, newest_apart}
use Rattle.laws_versions.proofs.history.undo.a_level_is_undone_one_by_one.Goals as goal

pub returns-clause-kept : goal.returns-clause-kept
returns-clause-kept c = keeps_undone_last

pub returns-clause-apart : goal.returns-clause-apart
returns-clause-apart c = newest_apart
