use Rattle.image_opening.proofs.WalkedLists.{all_tables, next_table, no_table, table_failed}
use Rattle.image_opening.proofs.trees.open_tables.Goals as goal

pub loop-table-init : goal.loop-table-init
loop-table-init c = no_table c.args.space.now c.new-opened.result.items c.args.marks.now c.new-opened.ensures.items

pub loop-table-preserved : goal.loop-table-preserved
loop-table-preserved c =
    next_table c.args.space.now c.args.roots.now c.loop-table.table-index c.table-item.result c.loop-table.opened.items c.walk_table.new.opened.items c.args.marks.now c.loop-table.marks c.walk_table.new.marks c.loop-table-test.true c.table-item.is c.loop-table.invariant
    c.in-Ok.ensures.table c.in-Ok.ensures.walked

pub returns-in-Err-clause-fault : goal.returns-in-Err-clause-fault
returns-in-Err-clause-fault c =
    table_failed c.args.space.now c.args.roots.now c.loop-table.table-index c.table-item.result c.loop-table.opened.items c.args.marks.now c.loop-table.marks c.in-Err.fault c.loop-table-test.true c.table-item.is c.loop-table.invariant c.in-Err.ensures.fault

pub returns-clause-trees : goal.returns-clause-trees
returns-clause-trees c = (all_tables c.args.space.now c.args.roots.now c.loop-table.table-index c.loop-table.opened.items c.args.marks.now c.loop-table.marks c.loop-table-test.false c.loop-table.invariant).0

pub returns-clause-walked : goal.returns-clause-walked
returns-clause-walked c = (all_tables c.args.space.now c.args.roots.now c.loop-table.table-index c.loop-table.opened.items c.args.marks.now c.loop-table.marks c.loop-table-test.false c.loop-table.invariant).1
