use Rattle.engine_parts.proofs.Intersections.{one_table-cons}
use Rattle.engine_parts.proofs.intersecting.are_of_one_table.Goals as goal

pub returns-in-len1-up : goal.returns-in-len1-up
returns-in-len1-up c = one_table-cons c.args.ranges.now c.first-item.result c.are_of.result c.in-len1-up.len_at_least c.first-item.is c.are_of.ensures
