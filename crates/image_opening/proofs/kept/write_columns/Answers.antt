use Rattle.image_opening.specs.KeptNodes.{column_again}
use Rattle.image_opening.proofs.KeptLoops.{next_room, next_written}
use Rattle.image_opening.proofs.kept.write_columns.Goals as goal

pub write_column-requires-clause-room : goal.write_column-requires-clause-room
write_column-requires-clause-room c =
    next_room (column_again c.args.table) c.args.space.now c.loop-column.space c.args.tree.now c.loop-column.tree c.args.columns.now c.loop-column.column-index c.column-item.result c.loop-column-test.true c.column-item.is c.loop-column.invariant c.requires.room

pub loop-column-preserved : goal.loop-column-preserved
loop-column-preserved c =
    next_written (column_again c.args.table) c.args.space.now c.loop-column.space c.write_column.new.space c.args.tree.now c.loop-column.tree c.write_column.new.tree c.args.columns.now c.loop-column.column-index c.column-item.result c.loop-column-test.true c.column-item.is c.loop-column.invariant c.write_column.ensures
