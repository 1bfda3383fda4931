use Rattle.std.proofs.Common.{arith}
use Rattle.column_set.proofs.Checked.{is_row-from_read}
use Rattle.column_set.proofs.checking.is_row.Goals as goal

pub returns : goal.returns
returns c = is_row-from_read c.args.bytes.now _ (λ i. omega (arith, c.type_inv.bytes i)) c.are_counted_values.ensures
