use Rattle.std.proofs.Common.{arith}
use Rattle.long_value.proofs.Held.{held_long}
use Rattle.long_value.proofs.values.LongValues.first_part.Goals as goal

pub chunk-requires : goal.chunk-requires
chunk-requires c =
    let long = held_long c.args.space.now c.args.self.now c.args.id c.requires.0 c.requires.1 in
    (c.requires.0, c.requires.1, omega (arith, long.long))
