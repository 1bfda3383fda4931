use Rattle.std.proofs.Common.{◌∙◌}
use Rattle.long_value.proofs.Held.{held_long, length_read}
use Rattle.long_value.proofs.values.LongValues.length.Goals as goal

pub returns : goal.returns
returns c value holds =
    c.read_u32.ensures ∙ length_read c.head.result.now value (c.head.ensures.head value holds) (held_long c.args.space.now c.args.self.now c.args.id value holds).short
