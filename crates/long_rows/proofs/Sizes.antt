-- A row has the size of the record that it stands for.
use Rattle.column_set.specs.RowSizes.{row_size-record_size}
use Rattle.long_rows.proofs.Stored.{SizeLaw}

pub size_law : SizeLaw
size_law = row_size-record_size
