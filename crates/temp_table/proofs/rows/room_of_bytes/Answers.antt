use Rattle.std.proofs.Common.{arith}
use Rattle.temp_table.proofs.Sizes.{below_256}
use Rattle.temp_table.proofs.rows.room_of_bytes.Goals as goal

pub returns-clause-bytes : goal.returns-clause-bytes
returns-clause-bytes c = below_256 c.args.bytes.now (λ i. omega (arith, c.type_inv.bytes i))
