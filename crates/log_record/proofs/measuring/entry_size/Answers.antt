use Rattle.std.proofs.Common.{arith}
use Rattle.log_record.proofs.Lengths.{length-entry, spelled_kind}
use Rattle.log_record.proofs.measuring.entry_size.Goals as goal

pub size_of_kind-requires-clause-short : goal.size_of_kind-requires-clause-short
size_of_kind-requires-clause-short c = let s = spelled_kind c.args.entry.now c.requires in omega (arith, s.1)

pub overflow_add-result : goal.overflow_add-result
overflow_add-result c = let s = spelled_kind c.args.entry.now c.requires in omega (arith, s.1, c.size_of_kind.ensures)

pub returns-clause-value : goal.returns-clause-value
returns-clause-value c = omega (arith, c.size_of_kind.ensures, length-entry c.args.entry.now)

pub returns-clause-small : goal.returns-clause-small
returns-clause-small c = let s = spelled_kind c.args.entry.now c.requires in omega (arith, s.1, c.size_of_kind.ensures)
