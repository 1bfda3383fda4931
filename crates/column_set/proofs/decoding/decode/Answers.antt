use Rattle.std.proofs.Common.{arith}
use Rattle.column_set.proofs.Spelling.{found_row, only_row, bad_row, never_big}
use Rattle.column_set.proofs.decoding.decode.Goals as goal

pub returns-clause-found : goal.returns-clause-found
returns-clause-found c = found_row c.args.bytes.now c.row_of.result (λ i. omega (arith, c.type_inv.bytes i)) c.row_of.ensures

pub returns-clause-only : goal.returns-clause-only
returns-clause-only c = only_row c.args.bytes.now c.row_of.result c.row_of.ensures

pub returns-clause-bad : goal.returns-clause-bad
returns-clause-bad c = bad_row c.args.bytes.now c.row_of.result c.row_of.ensures

pub returns-clause-never_big : goal.returns-clause-never_big
returns-clause-never_big c = never_big c.args.bytes.now c.row_of.result c.row_of.ensures
