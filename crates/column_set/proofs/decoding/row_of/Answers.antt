use Rattle.std.proofs.Common.{arith}
use Rattle.column_set.proofs.Spelling.{read_spelled}
use Rattle.column_set.proofs.decoding.row_of.Goals as goal

pub of_values-requires : goal.of_values-requires
of_values-requires c = rw c.new.ensures ((read_spelled c.args.bytes.now c.in_ok-values.values.items (λ i. omega (arith, c.type_inv.bytes i)) c.in_ok-values.ensures).in_order)
