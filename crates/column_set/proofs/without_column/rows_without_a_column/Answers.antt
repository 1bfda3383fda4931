use Rattle.column_set.proofs.OtherFields.{formed, shorter, shown, whole}
use Rattle.column_set.proofs.without_column.rows_without_a_column.Goals as goal

pub returns-clause-formed : goal.returns-clause-formed
returns-clause-formed c = formed

pub returns-clause-shorter : goal.returns-clause-shorter
returns-clause-shorter c = shorter

pub returns-clause-shown : goal.returns-clause-shown
returns-clause-shown c = shown

pub returns-clause-whole : goal.returns-clause-whole
returns-clause-whole c = whole
