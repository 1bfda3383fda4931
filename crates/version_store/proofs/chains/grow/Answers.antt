-- A vector has less than 2^63 elements.
use Rattle.std.proofs.Common.{arith}
use Rattle.version_store.proofs.chains.grow.Goals as goal

pub next_heads-count-requires-clause-limit : goal.next_heads-count-requires-clause-limit
next_heads-count-requires-clause-limit c = omega (arith, c.len.ensures, c.args.heads.now.ok.0, c.args.heads.now.ok.1, c.args.heads.now.small)
