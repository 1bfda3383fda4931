use Rattle.std.proofs.Common.{◌∙◌}
use Rattle.long_value.proofs.Held.{count_read, held_long}
use Rattle.long_value.proofs.values.LongValues.count.Goals as goal

pub returns : goal.returns
returns c value holds =
    c.read_u32.ensures ∙ count_read c.head.result.now value (c.head.ensures.head value holds) (held_long c.args.space.now c.args.self.now c.args.id value holds).few
