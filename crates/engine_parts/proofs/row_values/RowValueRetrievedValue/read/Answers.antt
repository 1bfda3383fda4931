use Rattle.column_set.specs.RecordValues.{values_of}
use Rattle.engine_parts.proofs.Retrieving.{is_read}
use Rattle.engine_parts.proofs.row_values.RowValueRetrievedValue.read.Goals as goal

pub returns : goal.returns
returns c = is_read (values_of c.args.self.now.row.now c.args.self.now.column.0) c.args.self.now.at c.read.result c.args.into.now c.read.new.into c.read.ensures.count c.read.ensures.bytes
