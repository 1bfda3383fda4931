use Rattle.tool_dump.specs.SoundTrees.{lines_of_index, roots_of_index}
use Rattle.tool_dump.proofs.Telling.{all_told, next_told, next_whole, told_none}
use Rattle.tool_dump.proofs.pages.append_indexes.Goals as goal

pub loop-index-init : goal.loop-index-init
loop-index-init c = told_none c.args.space.now c.args.text.now.items c.args.marks.now

pub append_index-requires : goal.append_index-requires
append_index-requires c =
    next_whole c.args.space.now roots_of_index (lines_of_index c.args.space.now c.args.table.now) c.args.indexes.now c.loop-index.index-index c.index-item.result c.args.text.now.items c.loop-index.text.items c.args.marks.now c.loop-index.marks
    c.loop-index-test.true c.index-item.is c.requires c.loop-index.invariant

pub loop-index-preserved : goal.loop-index-preserved
loop-index-preserved c =
    next_told c.args.space.now roots_of_index (lines_of_index c.args.space.now c.args.table.now) c.args.indexes.now c.loop-index.index-index c.index-item.result c.args.text.now.items c.loop-index.text.items c.append_index.new.text.items c.args.marks.now c.loop-index.marks
    c.append_index.new.marks c.loop-index-test.true c.index-item.is c.loop-index.invariant c.in_ok-append_index.ensures

pub returns : goal.returns
returns c =
    all_told c.args.space.now roots_of_index (lines_of_index c.args.space.now c.args.table.now) c.args.indexes.now c.loop-index.index-index c.args.text.now.items c.loop-index.text.items c.args.marks.now c.loop-index.marks c.loop-index-test.false c.loop-index.invariant
