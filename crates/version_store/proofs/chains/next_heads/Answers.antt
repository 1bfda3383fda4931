-- Twice as many heads, each for half as many hashes.
use Rattle.std.proofs.Common.{arith}
use Rattle.version_store.proofs.ChainLemmas.{twice}
use Rattle.version_store.proofs.chains.next_heads.Goals as goal

pub returns-else-count-eq0-clause-all : goal.returns-else-count-eq0-clause-all
returns-else-count-eq0-clause-all c = twice c.args.count c.args.shift (c.requires.begun (omega (arith, c.if-count-eq0.false))) c.requires.limit
