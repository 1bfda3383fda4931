use Rattle.image_opening.specs.KeptNodes.{index_again}
use Rattle.image_opening.proofs.KeptLoops.{next_room, next_written}
use Rattle.image_opening.proofs.kept.write_indexes.Goals as goal

pub write_index-requires-clause-room : goal.write_index-requires-clause-room
write_index-requires-clause-room c =
    next_room (index_again c.args.table) c.args.space.now c.loop-rule.space c.args.tree.now c.loop-rule.tree c.args.rules.now c.loop-rule.rule-index c.rule-item.result c.loop-rule-test.true c.rule-item.is c.loop-rule.invariant c.requires.room

pub loop-rule-preserved : goal.loop-rule-preserved
loop-rule-preserved c =
    next_written (index_again c.args.table) c.args.space.now c.loop-rule.space c.write_index.new.space c.args.tree.now c.loop-rule.tree c.write_index.new.tree c.args.rules.now c.loop-rule.rule-index c.rule-item.result c.loop-rule-test.true c.rule-item.is c.loop-rule.invariant c.write_index.ensures
