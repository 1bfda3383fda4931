use Rattle.image_findings.specs.CatalogFindings.{roots_of}
use Rattle.tool_dump.specs.SpaceTexts.{table_lines}
use Rattle.tool_dump.proofs.Telling.{all_told, next_told, next_whole, told_none}
use Rattle.tool_dump.proofs.pages.append_tables.Goals as goal

pub loop-told-init : goal.loop-told-init
loop-told-init c = told_none c.args.space.now c.args.text.now.items c.args.marks.now

pub append_table-requires : goal.append_table-requires
append_table-requires c =
    next_whole c.args.space.now roots_of (table_lines c.args.space.now) c.args.tables.now c.loop-told.told-index c.told-item.result c.args.text.now.items c.loop-told.text.items c.args.marks.now c.loop-told.marks c.loop-told-test.true c.told-item.is c.requires c.loop-told.invariant

pub loop-told-preserved : goal.loop-told-preserved
loop-told-preserved c =
    next_told c.args.space.now roots_of (table_lines c.args.space.now) c.args.tables.now c.loop-told.told-index c.told-item.result c.args.text.now.items c.loop-told.text.items c.append_table.new.text.items c.args.marks.now c.loop-told.marks c.append_table.new.marks
    c.loop-told-test.true c.told-item.is c.loop-told.invariant c.in_ok-append_table.ensures

pub returns : goal.returns
returns c = all_told c.args.space.now roots_of (table_lines c.args.space.now) c.args.tables.now c.loop-told.told-index c.args.text.now.items c.loop-told.text.items c.args.marks.now c.loop-told.marks c.loop-told-test.false c.loop-told.invariant
