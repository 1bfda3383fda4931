use Rattle.long_rows.proofs.ChangedValues.{value_laws}
use Rattle.long_rows.proofs.InUse.{counted, stands_cleaned, stands_rewritten, stands_undone}
use Rattle.long_rows.proofs.counting.rows_in_use_stand.Goals as goal

pub returns-clause-there : goal.returns-clause-there
returns-clause-there c = counted

pub returns-clause-undone : goal.returns-clause-undone
returns-clause-undone c = stands_undone value_laws

pub returns-clause-cleaned : goal.returns-clause-cleaned
returns-clause-cleaned c = stands_cleaned value_laws

pub returns-clause-rewritten : goal.returns-clause-rewritten
returns-clause-rewritten c = stands_rewritten value_laws
