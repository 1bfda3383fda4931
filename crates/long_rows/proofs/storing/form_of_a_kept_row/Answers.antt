use Rattle.long_rows.proofs.Formed.{row_formed}
use Rattle.long_rows.proofs.Sizes.{size_law}
use Rattle.long_rows.proofs.Stored.{kept_form, kept_size}
use Rattle.long_rows.proofs.storing.form_of_a_kept_row.Goals as goal

pub returns-clause-form : goal.returns-clause-form
returns-clause-form c found fields = kept_form found fields

pub returns-clause-size : goal.returns-clause-size
returns-clause-size c found fields = kept_size size_law found fields

pub returns-clause-row : goal.returns-clause-row
returns-clause-row c found fields may = row_formed found fields may (kept_size size_law found fields)
