use Rattle.long_rows.proofs.ChangedValues.{value_laws}
use Rattle.long_rows.proofs.Steps.{stands_beside, stands_put, stands_released, stands_shared, stands_taken}
use Rattle.long_rows.proofs.standing.rows_stand_as_values_change.Goals as goal

pub returns-clause-put : goal.returns-clause-put
returns-clause-put c = stands_put value_laws

pub returns-clause-shared : goal.returns-clause-shared
returns-clause-shared c = stands_shared value_laws

pub returns-clause-released : goal.returns-clause-released
returns-clause-released c = stands_released value_laws

pub returns-clause-beside : goal.returns-clause-beside
returns-clause-beside c = stands_beside value_laws

pub returns-clause-taken : goal.returns-clause-taken
returns-clause-taken c = stands_taken value_laws
