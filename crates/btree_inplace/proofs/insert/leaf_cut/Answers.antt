-- The part that the key belongs to has room: it stands there already, or is new.
use Rattle.std.proofs.Common.{◌+◌, arith}
use Rattle.std.specs.Prelude.{find}
use Rattle.btree_inplace.specs.Order.{has_key}
use Rattle.btree_inplace.proofs.Cuts.{needs_small, parted_at, room_at_before, room_at_behind}
use Rattle.btree_inplace.proofs.insert.leaf_cut.Goals as goal

pub returns-then-i-at-clause-parted : goal.returns-then-i-at-clause-parted
returns-then-i-at-clause-parted c = parted_at c.args.page.now.nodes c.half-at.result c.len.ensures.page.rising c.half-at.ensures.some c.half-at.ensures.within

pub returns-then-i-at-clause-room : goal.returns-then-i-at-clause-room
returns-then-i-at-clause-room c =
    room_at_before c.args.page.now.nodes c.args.key.now c.in-Ok.i c.half-at.result c.args.need c.len.ensures.page.rising c.in-Ok.ensures.1 c.if-i-at.true c.half-at.ensures.within c.len.ensures.page.size c.half-at.ensures.half c.half-at.ensures.more c.requires.needs

pub returns-else-i-at-clause-parted : goal.returns-else-i-at-clause-parted
returns-else-i-at-clause-parted c = parted_at c.args.page.now.nodes (c.half-at.result + 1) c.len.ensures.page.rising (omega arith) (omega (arith, c.if-i-at.false, c.in-Ok.ensures.0))

pub returns-else-i-at-clause-room : goal.returns-else-i-at-clause-room
returns-else-i-at-clause-room c =
    let nodes = c.args.page.now.nodes in
    room_at_behind nodes c.args.key.now c.in-Ok.i c.half-at.result c.args.need c.len.ensures.page.rising c.in-Ok.ensures.1 c.if-i-at.false c.in-Ok.ensures.0 c.len.ensures.page.size c.half-at.ensures.more (needs_small c.args.need (find (has_key c.args.key.now) nodes) c.requires.needs)
