use Rattle.laws_versions.proofs.HistoryLemmas.SeenRecords.{newest_records}
use Rattle.laws_versions.proofs.HistoryLemmas.Viewing.{view_records}
use Rattle.laws_versions.proofs.history.views.views_come_of_kept_changes.Goals as goal

pub returns-clause-newest : goal.returns-clause-newest
returns-clause-newest c = newest_records

pub returns-clause-view : goal.returns-clause-view
returns-clause-view c = view_records
