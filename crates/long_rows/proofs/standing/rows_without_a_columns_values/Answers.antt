use Rattle.long_rows.proofs.WithoutColumn.{names_no_other, shown, stands}
use Rattle.long_rows.proofs.standing.rows_without_a_columns_values.Goals as goal

pub returns-clause-names : goal.returns-clause-names
returns-clause-names c = names_no_other

pub returns-clause-shown : goal.returns-clause-shown
returns-clause-shown c = shown

pub returns-clause-stand : goal.returns-clause-stand
returns-clause-stand c = stands
