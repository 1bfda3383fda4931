use Rattle.column_set.proofs.Sizes.{length-row_bytes}
use Rattle.column_set.specs.RowSizes.{row_size-record_size}
use Rattle.column_set.proofs.rows.size_of_a_row.Goals as goal

pub returns-clause-bytes : goal.returns-clause-bytes
returns-clause-bytes c = length-row_bytes

pub returns-clause-record_size : goal.returns-clause-record_size
returns-clause-record_size c = row_size-record_size
