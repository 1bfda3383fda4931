use Rattle.btree_inplace.specs.Trees.{nodes_of}
use Rattle.image_contents.specs.ReferringRows.{counted, referring_rows}
use Rattle.image_contents.proofs.RowsReferring.{row_counted, row_passed}
use Rattle.image_contents.proofs.values.missing.references_to.Goals as goal

pub loop-row-preserved-in-Some-checked_add : goal.loop-row-preserved-in-Some-checked_add
loop-row-preserved-in-Some-checked_add c =
    let found = c.in-Some.ensures in
    row_counted c.args.id.now c.loop-row.rows c.next.new.self found.0 c.in-Some.row.is_undone c.loop-row.count c.in-Some-checked_add.more (counted c.args.id.now (referring_rows c.args.table.now.table.0 (nodes_of c.args.space.now c.args.table.now.nodes) c.args.versions.now))
    c.refers.result found.2 (c.refers.ensures found.0 found.1) c.if-refers.true c.in-Some-checked_add.ensures.1 c.loop-row.invariant

pub loop-row-preserved : goal.loop-row-preserved
loop-row-preserved c =
    let found = c.in-Some.ensures in
    row_passed c.args.id.now c.loop-row.rows c.next.new.self found.0 c.in-Some.row.is_undone c.loop-row.count (counted c.args.id.now (referring_rows c.args.table.now.table.0 (nodes_of c.args.space.now c.args.table.now.nodes) c.args.versions.now))
    c.refers.result found.2 (c.refers.ensures found.0 found.1) c.if-refers.false c.loop-row.invariant
