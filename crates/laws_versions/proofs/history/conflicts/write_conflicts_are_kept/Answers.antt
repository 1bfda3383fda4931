use Rattle.laws_versions.proofs.HistoryLemmas.Concurrent.{concurrent_kept, write_conflict_kept}
use Rattle.laws_versions.proofs.history.conflicts.write_conflicts_are_kept.Goals as goal

pub returns-clause-changes : goal.returns-clause-changes
returns-clause-changes c = concurrent_kept

pub returns-clause-conflict : goal.returns-clause-conflict
returns-clause-conflict c = write_conflict_kept
