use Rattle.column_set.proofs.HereRows.{shown, form, size, row}
use Rattle.column_set.proofs.encoding_records.values_here_are_the_record.Goals as goal

pub returns-clause-shown : goal.returns-clause-shown
returns-clause-shown c = shown

pub returns-clause-form : goal.returns-clause-form
returns-clause-form c = form

pub returns-clause-size : goal.returns-clause-size
returns-clause-size c = size

pub returns-clause-row : goal.returns-clause-row
returns-clause-row c = row
