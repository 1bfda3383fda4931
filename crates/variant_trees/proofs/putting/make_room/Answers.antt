use Rattle.std.proofs.Common.{List, sym, subst, arith}
use Rattle.table_trees.specs.StoredTables.{StoredTable, table_nodes}
use Rattle.variant_trees.specs.PutStages.{HasRoom}
use Rattle.variant_trees.proofs.RoomMade.{room_in_wider, room_there, row_fits}
use Rattle.variant_trees.proofs.putting.make_room.Goals as goal

pub widen-requires-clause-fits : goal.widen-requires-clause-fits
widen-requires-clause-fits c =
    row_fits (table_nodes c.args.trees.now.tables c.args.table.0) c.args.bookmark.now c.args.extent c.args.size (c.nodes_are_in_order.ensures.short c.args.table.0) c.requires.node (omega (arith, c.if-extent-size.true))

pub returns-in-Ok-clause-ok : goal.returns-in-Ok-clause-ok
returns-in-Ok-clause-ok c =
    subst (λ (trees : List StoredTable). HasRoom c.args.table.0 c.args.bookmark.now c.args.size c.args.trees.now.tables trees) (sym c.in-Ok.ensures.ok)
    (room_in_wider (record { named = c.nodes_after_a_change.ensures.named; others = c.nodes_after_a_change.ensures.others; indexes = c.nodes_after_a_change.ensures.indexes; values = c.nodes_after_a_change.ensures.long_values; put = c.nodes_by_bookmark.ensures.put; removed = c.nodes_by_bookmark.ensures.removed; replaced = c.nodes_by_bookmark.ensures.replaced; widened = c.nodes_by_bookmark.ensures.widened })
    c.args.trees.now.tables c.args.table.0 c.args.bookmark.now c.args.size c.args.extent c.requires.there c.requires.node (omega (arith, c.if-extent-size.true)))

pub returns-else-extent-size-clause-ok : goal.returns-else-extent-size-clause-ok
returns-else-extent-size-clause-ok c = room_there c.args.trees.now.tables c.args.table.0 c.args.bookmark.now c.args.size c.args.extent c.requires.node (omega (arith, c.if-extent-size.false))
