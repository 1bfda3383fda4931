use Rattle.laws_versions.proofs.ChangeLemmas.Projecting.{projected, all_projected}
use Rattle.laws_versions.proofs.changes.tables.changes_of_tables_change_records.Goals as goal

pub returns-clause-one : goal.returns-clause-one
returns-clause-one c = projected

pub returns-clause-many : goal.returns-clause-many
returns-clause-many c = all_projected
