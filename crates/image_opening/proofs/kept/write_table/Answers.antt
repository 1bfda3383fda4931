use Rattle.image_opening.proofs.KeptLoops.{parts_room, parts_written}
use Rattle.image_opening.proofs.kept.write_table.Goals as goal

pub write_indexes-requires-clause-room : goal.write_indexes-requires-clause-room
write_indexes-requires-clause-room c =
    parts_room c.args.space.now c.write_columns.new.space c.args.tree.now c.write_columns.new.tree c.id-id.result c.args.table.now c.columns.result.now c.indexes.result.now c.id-id.ensures c.indexes.ensures c.write_columns.ensures c.requires.room

pub returns : goal.returns
returns c =
    parts_written c.args.space.now c.write_columns.new.space c.write_indexes.new.space c.args.tree.now c.write_columns.new.tree c.write_indexes.new.tree c.id-id.result c.args.table.now c.columns.result.now c.indexes.result.now c.id-id.ensures c.columns.ensures c.indexes.ensures c.write_columns.ensures c.write_indexes.ensures
