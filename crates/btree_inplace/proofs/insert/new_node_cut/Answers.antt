-- A cut behind the new node's place leaves it in the first part, and any other in the second.
use Rattle.std.proofs.Common.{◌-◌, ◌≤◌, arith}
use Rattle.btree_inplace.proofs.Cuts.{parted_at, parted_behind, room_before, room_behind}
use Rattle.btree_inplace.proofs.insert.new_node_cut.Goals as goal

pub returns-then-cut-i-clause-parted : goal.returns-then-cut-i-clause-parted
returns-then-cut-i-clause-parted c =
    let parts = c.split_at-cut.ensures.nodes in
    parted_at c.args.page.now.nodes (c.split_at-cut.result - 1) c.len.ensures.page.rising (omega (arith, parts.first_other c.if-cut-i.true)) (omega (arith, parts.first, parts.last))

pub returns-then-cut-i-clause-room : goal.returns-then-cut-i-clause-room
returns-then-cut-i-clause-room c =
    let parts = c.split_at-cut.ensures.nodes in
    room_before c.args.page.now.nodes c.args.key.now c.args.i (c.split_at-cut.result - 1) c.args.need c.requires.place (omega (arith, c.if-cut-i.true)) (omega (arith, parts.first, parts.last)) (c.split_at-cut.ensures.before c.if-cut-i.true)

pub returns-clause-parted : goal.returns-clause-parted
returns-clause-parted c =
    let parts = c.split_at-cut.ensures.nodes in
    let high : c.split_at-cut.result ≤ c.args.i = omega (arith, c.if-cut-i.false) in
    parted_behind c.args.page.now.nodes c.args.key.now c.args.i c.split_at-cut.result c.len.ensures.page.rising c.requires.place high parts.first (parts.last_other high)

pub returns-clause-room : goal.returns-clause-room
returns-clause-room c =
    let high : c.split_at-cut.result ≤ c.args.i = omega (arith, c.if-cut-i.false) in
    room_behind c.args.page.now.nodes c.args.key.now c.args.i c.split_at-cut.result c.args.need c.requires.place high (c.split_at-cut.ensures.behind high)
