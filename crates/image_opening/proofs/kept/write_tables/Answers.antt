use Rattle.image_opening.specs.KeptNodes.{items_again}
use Rattle.image_opening.proofs.KeptLoops.{next_room, next_written}
use Rattle.image_opening.proofs.kept.write_tables.Goals as goal

pub write_table-requires-clause-room : goal.write_table-requires-clause-room
write_table-requires-clause-room c =
    next_room items_again c.args.space.now c.loop-table.space c.args.tree.now c.loop-table.tree c.args.tables.now c.loop-table.table-index c.table-item.result c.loop-table-test.true c.table-item.is c.loop-table.invariant c.requires.room

pub loop-table-preserved : goal.loop-table-preserved
loop-table-preserved c =
    next_written items_again c.args.space.now c.loop-table.space c.write_table.new.space c.args.tree.now c.loop-table.tree c.write_table.new.tree c.args.tables.now c.loop-table.table-index c.table-item.result c.loop-table-test.true c.table-item.is c.loop-table.invariant c.write_table.ensures
